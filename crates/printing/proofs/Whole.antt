-- Nothing is cut: what is printed for a text has at most 1,024 bytes.
--   whole_of       == so it is for what was read, where its numbers have the ranges of the structs
--   form_small     == a set in the form is small
--   whole          == so it is for every text;  shown: the page holds all of what is printed
-- Assumes nothing.
use Rattle.std.specs.Prelude.{Ok as Found}
use Prim.Native.Nat.{ℕ, zero, suc, ◌-◌, ◌≤◌}
use mathlib.Core.Path.{◌≡◌, refl, sym, ◌∙◌, ap, subst}
use mathlib.Core.Bool.{true}
use mathlib.Core.List.{List, [], ◌∷◌, map, flat_map}
use mathlib.Core.Logic.{⊎_elim}
use native.Mathlib.Omega.{arith}
use lib.Dec.{eqb}
use borrow.Author.Tests.{eqb-true}
use lib.ListN.{length, take, get_or, length-append}
use Rattle.model.specs.declared.Level.{Level}
use Rattle.model.specs.declared.Level.TheVariants.{Lo, Hi}
use Rattle.model.specs.declared.Job.{Job}
use Rattle.model.specs.declared.Set.{Set}
use Rattle.model.specs.declared.Reading.{Reading}
use Rattle.model.specs.declared.Miss.{Miss}
use Rattle.model.specs.declared.Verdict.{Verdict}
use Rattle.model.specs.declared.Verdict.TheVariants.{Fit, Unfit}
use Rattle.model.specs.Lists.{at, largest}
use Rattle.model.specs.Sets.{view, members, span, blank, job, job_at, order_of}
use Rattle.model.specs.Scenarios.{scenarios, times_of, worst, margin, verdict, times_beside}
use Rattle.model.specs.Refusals.{good, is_good, refusal}
use Rattle.model.specs.Answers.{unless, judged}
use Rattle.model.specs.Texts.{decimal, fields, line, level_number, job_numbers, jobs_of, ones, InForm, Accepts, Refuses, Reads}
use Rattle.model.specs.Printed.{fit_word, fit_text, unfit_text, judged_text, printed}
use Rattle.laws.proofs.Bools.{tests, split}
use Rattle.laws.proofs.Pigeonhole.{length_cut}
use Rattle.laws.proofs.Checks.{passes_sound}
use Rattle.forms.proofs.Lengths.{opening_end}
use Rattle.pages.specs.declared.Page.{Page}
use Rattle.pages.specs.Pages.{page}
use Rattle.pages.proofs.Puts.{page-whole}
use Rattle.pages.specs.Lines.{job_line, miss_line}
use Rattle.pages.proofs.Lengths.{line_most, lines_most, refused_most, job_most, head_most, miss_most}
use Rattle.printing.proofs.Bounds.{Short, Small, refusal-short, member_most, members_most, worst_most, times_most, Within, search-within, scenarios_most}

-- what is printed ------------------------------------------------------------------------------------------------------------------------

module _ (s : Set) (k : Small (view s)) (g : is_good (refusal (view s)) ≡ true) where
  span_small : span (view s) ≤ 4096
  span_small = (passes_sound s g).bounded

  fit_most : length (fit_text (view s)) ≤ 1024
  unfolding fit_text job_line margin
  fit_most =
      let v = view s in
      let f : ℕ → List ℕ = λ j. job_line j (worst v j) (v.deadline j) in
      omega (
        arith,
        length-append (fields (fit_word ∷ decimal (span v) ∷ [])) (flat_map f (members v.policy)),
        head_most (span v) (omega (arith, span_small)),
        lines_most f (members v.policy)
            (λ j m. job_most j (worst v j) (v.deadline j) (member_most v.policy j m) (omega (arith, worst_most v j, span_small)) (k.deadline j)),
        members_most v.policy,
      )

  unfit_most : (m : Miss) → Within (view s) m → length (unfit_text (view s) m (times_of (view s) m.scenario)) ≤ 1024
  unfolding unfit_text miss_line
  unfit_most m w =
      let v = view s in
      let c = times_of v m.scenario in
      omega (
        arith,
        length-append (miss_line m) (line (map (λ j. at c j 0) (members v.policy))),
        miss_most m w.scenario w.job (omega (arith, w.finish, span_small)),
        line_most (λ j. at c j 0) (members v.policy) (times_most v k m.scenario),
        members_most v.policy,
      )

  found_most : (x : Verdict) → verdict (view s) ≡ x → length (judged_text (view s) (Found x) (times_beside (view s) x)) ≤ 1024
  unfolding judged_text times_beside verdict
  found_most Fit e = fit_most
  found_most (Unfit m) e = unfit_most m (search-within (view s) m (scenarios (view s)) (scenarios_most (view s)) e)

judged_most : (s : Set) → Small (view s)
    → length (judged_text (view s) (judged (view s)).judgement (judged (view s)).times) ≤ 1024
unfolding judged unless judged_text
judged_most s k =
    split (is_good (refusal (view s)))
    (λ t. rw t (found_most s k t (verdict (view s)) refl))
    (λ f. rw f (let r = refusal-short (view s) k in omega (arith, refused_most (refusal (view s)) r.number r.place)))

pub whole_of : (q : Reading) → Short q.refusal → (is_good q.refusal ≡ true → Small (view q.set)) → length (printed q) ≤ 1024
unfolding printed unless
whole_of q r k =
    split (is_good q.refusal)
    (λ t. rw t (judged_most q.set (k t)))
    (λ f. rw f (omega (arith, refused_most q.refusal r.number r.place)))

-- a text ---------------------------------------------------------------------------------------------------------------------------------

-- the numbers of a job of a list
abbrev Numbers : Job → Type 0
Numbers j = (j.arrival ≤ 65535) × (j.deadline ≤ 65535) × (j.lo ≤ 65535) × (j.hi ≤ 65535)

blank-numbers : Numbers blank
unfolding blank job
blank-numbers = (omega arith, omega arith, omega arith, omega arith)

job_numbers_lem : (l : List Job) → largest (λ x. x) (flat_map job_numbers l) ≤ 65535 → (i : ℕ) → Numbers (get_or l i blank)
unfolding flat_map job_numbers largest
job_numbers_lem [] h i = blank-numbers
job_numbers_lem (x ∷ l) h zero = (omega arith, omega arith, omega arith, omega arith)
job_numbers_lem (x ∷ l) h (suc i) = job_numbers_lem l (omega arith) i

level_most : (m : Level) → level_number m ≤ 1
unfolding level_number
level_most Lo = omega arith
level_most Hi = omega arith

ones_most : (l : List Job) → ones l ≤ length l
unfolding ones
ones_most [] = omega arith
ones_most (x ∷ l) = omega (arith, ones_most l, level_most x.level)

module _ (s : Set) (f : InForm s) where
  numbers_most : (j : ℕ) → Numbers (job_at s j)
  unfolding job_at jobs_of at
  numbers_most j = split (eqb j 0) (λ t. rw t blank-numbers) (λ n. rw n (job_numbers_lem (jobs_of s) f.jobs (j - 1)))

  orders_most : (m : Level) → length (order_of s m) ≤ 64
  unfolding order_of jobs_of
  orders_most Lo = omega (arith, length_cut 0 s.lo.count s.lo.entries, f.second, f.first)
  orders_most Hi =
      omega (
        arith,
        length_cut 0 s.hi.count s.hi.entries,
        f.third,
        ones_most (jobs_of s),
        length_cut blank s.count s.jobs,
        f.first,
      )

  pub form_small : Small (view s)
  unfolding view
  form_small =
      record {
        count = f.first.1;
        orders = orders_most;
        arrival = λ j. (numbers_most j).0;
        deadline = λ j. (numbers_most j).1;
        lo = λ j. (numbers_most j).2;
        hi = λ j. (numbers_most j).3;
      }

accepted_most : (t : List ℕ) (q : Reading) → Accepts t q → length (printed q) ≤ 1024
unfolding good
accepted_most t q a =
    whole_of q
    (subst Short (sym a.refusal) (record { number = omega arith; place = omega arith }))
    (λ e. form_small q.set a.set.0)

-- the place is that of an opening, and so at most 2,441
refused_text_most : (t : List ℕ) (q : Reading) → Refuses t q → length (printed q) ≤ 1024
unfolding is_good
refused_text_most t q r =
    whole_of q
    (record { number = omega (arith, r.number); place = omega (arith, opening_end t q.refusal.place r.place.prefix r.place.begins) })
    (λ e. absurd (omega (tests, eqb-true q.refusal.number 0 e, r.number)))

pub whole : (t : List ℕ) (q : Reading) → Reads t q → length (printed q) ≤ 1024
whole t q r = ⊎_elim (accepted_most t q) (refused_text_most t q) r

pub shown : (t : List ℕ) (q : Reading) (p : Page) → Reads t q → p ≡ page (printed q) → take p.length p.bytes ≡ printed q
shown t q p r e = ap (λ x. take x.length x.bytes) e ∙ page-whole (printed q) (whole t q r)
