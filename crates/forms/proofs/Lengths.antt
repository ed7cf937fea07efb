-- How long a well-formed text can be, and why a reader need not see more of a text than that.
--   line-..-length   == the length of a line, of a job's line, of the lines of jobs, of an order's line
--   short_texts      == a well-formed text has at most 2,441 bytes;  short_openings: so has what one begins with
--   opening_end      == so whatever the text, a part of it that some well-formed text begins with ends there
--   first-bytes      == the answer to a text is the answer to its first k bytes, for any k above 2,441
--   first_4096       == so it is for the 4,096 bytes that the program reads
-- Assumes nothing.
use Prim.Native.Nat.{ℕ, suc, ◌+◌, ◌*◌, ◌≤◌, ◌<◌}
use mathlib.Core.Path.{◌≡◌, sym, ◌∙◌, ap, subst}
use mathlib.Core.List.{List, [], ◌∷◌, ◌++◌, flat_map}
use mathlib.Core.Logic.{inl, inr, ◌↔◌}
use native.Mathlib.Omega.{arith}
use lib.Dec.{leb}
use lib.ListN.{length, take, length-append}
use lib.Seq.{take_all, take-take, length-take-le}
use Rattle.model.specs.declared.Level.TheVariants.{Lo, Hi}
use Rattle.model.specs.declared.Job.{Job}
use Rattle.model.specs.declared.Reading.{Reading}
use Rattle.model.specs.Lists.{largest}
use Rattle.model.specs.Texts.{decimal, fields, line, level_number, job_numbers, order_line, jobs_of, ones, WellFormed, Opening, Place, Reads}
use Rattle.model.specs.Sets.{order_of}
use Rattle.forms.specs.Forms.{lf}
use Rattle.laws.proofs.Bools.{tests, split}
use Rattle.forms.proofs.Decimals.{decimal_one, decimal-count, decimal_most}
use Rattle.forms.proofs.Lines.{order_line_lem}
use Rattle.forms.proofs.Sections.{job_lines, UpTo, level_most, UpTo-job}
use Rattle.forms.proofs.Accepted.{Fits, after_lo, after_jobs, written, form_fits, text_written}

line_last_length : (x : ℕ) → length (line (x ∷ [])) ≡ suc (length (decimal x))
unfolding line fields
line_last_length x = omega (arith, length-append (decimal x) (10 ∷ []))

line-more-length : (x y : ℕ) (xs : List ℕ) → length (line (x ∷ y ∷ xs)) ≡ suc (length (decimal x)) + length (line (y ∷ xs))
unfolding line fields
line-more-length x y xs = omega (arith, length-append (decimal x) (32 ∷ line (y ∷ xs)))

job_line-length : (j : Job) → UpTo (job_numbers j) → length (line (job_numbers j)) ≤ 26
unfolding job_numbers UpTo largest
job_line-length j h =
    let l = level_number j.level in
    omega (
      arith,
      line-more-length j.arrival j.deadline (l ∷ j.lo ∷ j.hi ∷ []),
      line-more-length j.deadline l (j.lo ∷ j.hi ∷ []),
      line-more-length l j.lo (j.hi ∷ []),
      line-more-length j.lo j.hi [],
      line_last_length j.hi,
      decimal_most j.arrival (omega arith),
      decimal_most j.deadline (omega arith),
      decimal_one l (omega (arith, level_most j.level)),
      decimal_most j.lo (omega arith),
      decimal_most j.hi (omega arith),
    )

job_lines-length : (js : List Job) → UpTo (flat_map job_numbers js) → length (job_lines js) ≤ 26 * length js
unfolding job_lines flat_map
job_lines-length [] h = omega arith
job_lines-length (j ∷ js) h =
    let b = (UpTo-job j js).0 h in
    omega (
      arith,
      length-append (line (job_numbers j)) (job_lines js),
      job_line-length j b.0,
      job_lines-length js b.1,
    )

line-length : (x : ℕ) (xs : List ℕ) → UpTo (x ∷ xs) → length (line (x ∷ xs)) ≤ 6 * suc (length xs)
unfolding UpTo largest
line-length x [] h = omega (arith, line_last_length x, decimal_most x (omega arith))
line-length x (y ∷ xs) h =
    omega (arith, line-more-length x y xs, decimal_most x (omega arith), line-length y xs (omega arith))

order_line-length : (xs : List ℕ) → UpTo xs → length (order_line xs) ≤ 6 * length xs
order_line-length [] h = unfold order_line in omega arith
order_line-length (x ∷ xs) h = omega (arith, ap length (order_line_lem x xs), line-length x xs h)

ones_most : (js : List Job) → ones js ≤ length js
unfolding ones
ones_most [] = omega arith
ones_most (j ∷ js) = omega (arith, level_most j.level, ones_most js)

written-length : (js : List Job) (lo hi : List ℕ) → Fits js lo hi → length (written js lo hi) ≤ 2441
unfolding written after_jobs after_lo
written-length js lo hi g =
    let n = length js in
    let k = ones js in
    omega (
      arith,
      g.most,
      g.second,
      g.third,
      ones_most js,
      decimal-count n (omega (arith, g.most)),
      decimal-count k (omega (arith, g.most, ones_most js)),
      line_last_length n,
      line_last_length k,
      job_lines-length js g.numbers,
      order_line-length lo g.lo_entries,
      order_line-length hi g.hi_entries,
      length-append (decimal n) (lf ∷ (job_lines js ++ after_jobs js lo hi)),
      length-append (job_lines js) (after_jobs js lo hi),
      length-append (line (n ∷ [])) (order_line lo ++ after_lo js hi),
      length-append (order_line lo) (after_lo js hi),
      length-append (line (k ∷ [])) (order_line hi ++ []),
      length-append (order_line hi) [],
    )

pub short_texts : (t : List ℕ) → WellFormed t → length t ≤ 2441
short_texts t (s, (g, e)) =
    omega (arith, ap length (e ∙ text_written s g), written-length (jobs_of s) (order_of s Lo) (order_of s Hi) (form_fits s g))

pub short_openings : (q : List ℕ) → Opening q → length q ≤ 2441
short_openings q (u, w) = omega (arith, short_texts (q ++ u) w, length-append q u)

-- a text beyond the bound ------------------------------------------------------------------------------------------------------------

pub opening_end : (t : List ℕ) (m : ℕ) → m ≤ length t → Opening (take m t) → m ≤ 2441
opening_end t m h o = omega (arith, short_openings (take m t) o, length-take-le m t h)

module _ (k : ℕ) (far : 2441 < k) (t : List ℕ) (long : k < length t) where
  cut-length : length (take k t) ≡ k
  cut-length = length-take-le k t (omega arith)

  cut_opening : (m : ℕ) → m ≤ k → Opening (take m (take k t)) ↔ Opening (take m t)
  cut_opening m h =
      let e = take-take m k t h in (λ o. subst Opening e o, λ o. subst Opening (sym e) o)

  cut-place : (n : ℕ) → Place t n ↔ Place (take k t) n
  cut-place n = (
    λ p.
        let z = opening_end t n p.prefix p.begins in
        record {
          prefix = omega (arith, cut-length, z);
          begins = (cut_opening n (omega (arith, z))).1 p.begins;
          longest =
              λ m q o. let h : m ≤ k = omega (arith, cut-length) in p.longest m (omega arith) ((cut_opening m h).0 o);
        },
    λ p.
        let h : n ≤ k = omega (arith, cut-length, p.prefix) in
        record {
          prefix = omega arith;
          begins = (cut_opening n h).0 p.begins;
          longest =
              λ m q o.
              let z = opening_end t m q o in
              p.longest m (omega (arith, cut-length, z)) ((cut_opening m (omega (arith, z))).1 o);
        },
  )

  long_reads : (r : Reading) → Reads t r → Reads (take k t) r
  long_reads r (inl a) = absurd (omega (arith, short_texts t (r.set, a.set)))
  long_reads r (inr a) =
      inr
      (record {
        form = λ w. omega (arith, cut-length, short_texts (take k t) w);
        number = a.number;
        place = (cut-place r.refusal.place).0 a.place;
        set = a.set;
      })

  cut_reads : (r : Reading) → Reads (take k t) r → Reads t r
  cut_reads r (inl a) = absurd (omega (arith, cut-length, short_texts (take k t) (r.set, a.set)))
  cut_reads r (inr a) =
      inr
      (record {
        form = λ w. omega (arith, short_texts t w);
        number = a.number;
        place = (cut-place r.refusal.place).1 a.place;
        set = a.set;
      })

pub first-bytes : (k : ℕ) → 2441 < k → (t : List ℕ) (r : Reading) → Reads t r ↔ Reads (take k t) r
first-bytes k far t r =
    split (leb (length t) k)
    (λ y.
    let e = take_all k t (omega (tests, y)) in
    (λ a. subst (λ u. Reads u r) (sym e) a, λ a. subst (λ u. Reads u r) e a))
    (λ n.
    let long : k < length t = omega (tests, n) in (long_reads k far t long r, cut_reads k far t long r))

-- "A text is at most 2,441 bytes, so the program reads no more than 4,096."
pub first_4096 : (t : List ℕ) (r : Reading) → Reads t r ↔ Reads (take 4096 t) r
first_4096 = first-bytes 4096 (omega arith)
