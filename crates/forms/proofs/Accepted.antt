-- The scan accepts a text exactly if it is of the form, and gives its set.
--   Fits js lo hi        == the constraints on counts and numbers, of lists
--   written js lo hi     == the text of these lists, part behind part
--   after_jobs, after_lo == what of it stands behind the jobs, behind the LO order
--   plan-scan, plan-read       == the scan gives the set of lists that fit for their text, and for no other
--   set-jobs, set-lo, set-hi   == a set written down has these jobs and orders
--   form_fits, fits_form       == a set is of the form exactly if its lists fit
--   text_written         == its text is the text of its lists
--   accepts, accepted    == t is the text of s exactly if the scan of t gives s
-- Assumes nothing.
use Prim.Native.Nat.{ℕ, ◌-◌, ◌≤◌}
use mathlib.Core.Path.{◌≡◌, refl, sym, ◌∙◌, ap, ap₂, subst}
use mathlib.Core.List.{List, [], ◌∷◌, ◌++◌, flat_map, append_assoc, append-nil}
use native.Mathlib.Omega.{arith}
use lib.ListN.{length, replicate}
use Rattle.model.specs.declared.Level.TheVariants.{Lo, Hi}
use Rattle.model.specs.declared.Job.{Job}
use Rattle.model.specs.declared.Set.{Set}
use Rattle.model.specs.Lists.{cut}
use Rattle.model.specs.Sets.{blank, set, order_of}
use Rattle.model.specs.Texts.{decimal, line, job_numbers, order_line, jobs_of, text_of, ones, InForm, TextOf}
use Rattle.forms.specs.Forms.{lf, done, read, scan, sections, plan}
use Rattle.laws.proofs.Pigeonhole.{length_cut}
use Rattle.forms.proofs.Scans.{not-read, scan-field, field-read}
use Rattle.forms.proofs.Lines.{line_last}
use Rattle.forms.proofs.Sections.{job_lines, UpTo, UpTo-append, jobs-scan, jobs-read, order-scan, order-read, range-first}

pub record Fits (js : List Job) (lo hi : List ℕ) : Type 0 where
  pub some : 1 ≤ length js
  pub most : length js ≤ 64
  pub second : length lo ≡ length js
  pub third : length hi ≡ ones js
  pub numbers : UpTo (flat_map job_numbers js)
  pub lo_entries : UpTo lo
  pub hi_entries : UpTo hi

unfoldable pub after_lo : List Job → List ℕ → List ℕ
after_lo js hi = line (ones js ∷ []) ++ (order_line hi ++ [])

unfoldable pub after_jobs : List Job → List ℕ → List ℕ → List ℕ
after_jobs js lo hi = line (length js ∷ []) ++ (order_line lo ++ after_lo js hi)

unfoldable pub written : List Job → List ℕ → List ℕ → List ℕ
written js lo hi = decimal (length js) ++ (lf ∷ (job_lines js ++ after_jobs js lo hi))

-- the scan ---------------------------------------------------------------------------------------------------------------------------

pub plan-scan : (js : List Job) (lo hi : List ℕ) → Fits js lo hi → scan plan (written js lo hi) ≡ read (set js lo hi)
unfolding written after_jobs after_lo plan sections scan
plan-scan js lo hi g =
    scan-field 1 64 lf sections (length js) (job_lines js ++ after_jobs js lo hi) range-first g.some g.most
    ∙ jobs-scan (length js) [] js _ (after_jobs js lo hi) refl g.numbers
    ∙ order-scan (length js) lo _ (after_lo js hi) g.second g.lo_entries
    ∙ order-scan (ones js) hi _ [] g.third g.hi_entries

done-read : (x : Set) (t : List ℕ) (s : Set) → scan (done x) t ≡ read s → (t ≡ []) × (s ≡ x)
unfolding scan
done-read x [] s h = (refl, cc)
done-read x (b ∷ t) s h = not-read h refl

whole : (n : ℕ) (js : List Job) (lo hi t u v w x : List ℕ) → length js ≡ n → t ≡ decimal n ++ (lf ∷ u) → u ≡ job_lines js ++ v
    → v ≡ line (n ∷ []) ++ (order_line lo ++ w) → w ≡ line (ones js ∷ []) ++ (order_line hi ++ x) → x ≡ [] → t ≡ written js lo hi
unfolding written after_jobs after_lo
whole n js lo hi t u v w x a b c d e f = cc

pub plan-read : (t : List ℕ) (s : Set) → scan plan t ≡ read s
    → (js : List Job) × (lo : List ℕ) × (hi : List ℕ) × Fits js lo hi × (t ≡ written js lo hi) × (s ≡ set js lo hi)
unfolding plan sections
plan-read t s h =
    let a = field-read 1 64 lf sections t s range-first h in
    let b = jobs-read a.0 [] _ a.1 s a.5 in
    let c = order-read a.0 _ b.1 s b.5 in
    let d = order-read (ones b.0) _ c.1 s c.5 in
    let e = done-read (set b.0 c.0 d.0) d.1 s d.5 in (
      b.0,
      c.0,
      d.0,
      record {
        some = omega (arith, a.2, b.2);
        most = omega (arith, a.3, b.2);
        second = c.2 ∙ sym b.2;
        third = d.2;
        numbers = b.3;
        lo_entries = c.3;
        hi_entries = d.3;
      },
      whole a.0 b.0 c.0 d.0 t a.1 b.1 c.1 d.1 b.2 a.4 b.4 c.4 d.4 e.0,
      e.1,
    )

-- sets -------------------------------------------------------------------------------------------------------------------------------

-- what is padded and cut is the list again
pub cut_padded {ℓ} : {A : Type ℓ} (d : A) (l m : List A) → cut d (length l) (l ++ m) ≡ l
unfolding cut
cut_padded d [] m = refl
cut_padded d (x ∷ l) m = ap (λ y. x ∷ y) (cut_padded d l m)

same_set : {js is : List Job} {lo hi l h : List ℕ} → js ≡ is → lo ≡ l → hi ≡ h → set js lo hi ≡ set is l h
same_set {js} {is} {lo} {hi} {l} {h} p q r = cc

module _ (js : List Job) (lo hi : List ℕ) where
  pub set-jobs : jobs_of (set js lo hi) ≡ js
  unfolding jobs_of set
  set-jobs = cut_padded blank js (replicate (64 - length js) blank)

  pub set-lo : order_of (set js lo hi) Lo ≡ lo
  unfolding order_of set
  set-lo = cut_padded 0 lo (replicate (64 - length lo) 0)

  pub set-hi : order_of (set js lo hi) Hi ≡ hi
  unfolding order_of set
  set-hi = cut_padded 0 hi (replicate (64 - length hi) 0)

  pub fits_form : Fits js lo hi → InForm (set js lo hi)
  unfolding set UpTo
  fits_form g =
      record {
        first = (g.some, g.most);
        second = g.second;
        third = g.third ∙ ap ones (sym set-jobs);
        jobs = subst (λ l. UpTo (flat_map job_numbers l)) (sym set-jobs) g.numbers;
        orders = subst UpTo (sym (ap₂ (λ l m. l ++ m) set-lo set-hi)) ((UpTo-append lo hi).1 (g.lo_entries, g.hi_entries));
        room = same_set (sym set-jobs) (sym set-lo) (sym set-hi);
      }

same_text : {js is : List Job} {lo hi l h : List ℕ} → js ≡ is → lo ≡ l → hi ≡ h → written js lo hi ≡ written is l h
same_text {js} {is} {lo} {hi} {l} {h} p q r = cc

regroup : (a b c d e f : List ℕ) → a ++ b ++ c ++ d ++ e ++ f ≡ a ++ (b ++ (c ++ (d ++ (e ++ (f ++ [])))))
regroup a b c d e f = simp (append_assoc, append-nil)

module _ (s : Set) (g : InForm s) where
  count-jobs : length (jobs_of s) ≡ s.count
  unfolding jobs_of
  count-jobs = length_cut blank s.count s.jobs

  count-lo : length (order_of s Lo) ≡ s.count
  unfolding order_of
  count-lo = length_cut 0 s.lo.count s.lo.entries ∙ g.second

  count-hi : length (order_of s Hi) ≡ ones (jobs_of s)
  unfolding order_of
  count-hi = length_cut 0 s.hi.count s.hi.entries ∙ g.third

  pub form_fits : Fits (jobs_of s) (order_of s Lo) (order_of s Hi)
  unfolding UpTo
  form_fits =
      let b = (UpTo-append (order_of s Lo) (order_of s Hi)).0 g.orders in
      record {
        some = omega (arith, g.first, count-jobs);
        most = omega (arith, g.first, count-jobs);
        second = count-lo ∙ sym count-jobs;
        third = count-hi;
        numbers = g.jobs;
        lo_entries = b.0;
        hi_entries = b.1;
      }

  -- the sections of the text, one behind the other
  pub text_written : text_of s ≡ written (jobs_of s) (order_of s Lo) (order_of s Hi)
  unfolding text_of written after_jobs after_lo job_lines
  text_written =
      let js = jobs_of s in
      let lo = order_of s Lo in
      let hi = order_of s Hi in
      let n = length js in
      let a : s.count ≡ length (jobs_of s) = sym count-jobs in
      let b : s.lo.count ≡ length (jobs_of s) = g.second ∙ a in
      let c : s.hi.count ≡ ones (jobs_of s) = g.third in
      counted a b c
      ∙ regroup (line (n ∷ [])) (job_lines js) (line (n ∷ [])) (order_line lo) (line (ones js ∷ [])) (order_line hi)
      ∙ line_last n (job_lines js ++ after_jobs js lo hi)
    where
      counted : {n m k i j h : ℕ} → n ≡ i → m ≡ j → k ≡ h
          → line (n ∷ []) ++ job_lines (jobs_of s) ++ line (m ∷ []) ++ order_line (order_of s Lo) ++ line (k ∷ []) ++ order_line (order_of s Hi)
          ≡ line (i ∷ []) ++ job_lines (jobs_of s) ++ line (j ∷ []) ++ order_line (order_of s Lo) ++ line (h ∷ []) ++ order_line (order_of s Hi)
      counted {n} {m} {k} {i} {j} {h} p q r = cc

-- the two directions -----------------------------------------------------------------------------------------------------------------

pub accepts : (t : List ℕ) (s : Set) → TextOf s t → scan plan t ≡ read s
accepts t s (g, e) =
    ap (scan plan) (e ∙ text_written s g) ∙ plan-scan (jobs_of s) (order_of s Lo) (order_of s Hi) (form_fits s g) ∙ ap read (sym g.room)

-- the text of lists that fit
pub fits_text : (js : List Job) (lo hi : List ℕ) → Fits js lo hi → TextOf (set js lo hi) (written js lo hi)
fits_text js lo hi g =
    let f = fits_form js lo hi g in (
      f,
      sym
          (text_written (set js lo hi) f
          ∙ same_text (set-jobs js lo hi) (set-lo js lo hi) (set-hi js lo hi)),
    )

pub accepted : (t : List ℕ) (s : Set) → scan plan t ≡ read s → TextOf s t
accepted t s h =
    let r = plan-read t s h in
    let z = fits_text r.0 r.1 r.2 r.3 in
    subst (λ y. TextOf y t) (sym r.5) (z.0, r.4 ∙ z.1)
