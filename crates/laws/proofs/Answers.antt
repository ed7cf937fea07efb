-- What the number of a refusal says, and what a run that is not refused answers.
--   good_of, bad_of   == the set is not refused where the number is 0, and is where it is not
--   times_pass        == times in their range pass check 9
--   ran-good          == a run whose times pass check 9 answers its finishes and its switch
--   ran-times         == so does one whose times lie in their range
-- Assumes nothing.
use Prim.Native.Nat.{ℕ}
use mathlib.Core.Path.{◌≡◌, refl}
use mathlib.Core.Bool.{true, false, not}
use mathlib.Core.List.{List}
use borrow.Author.Tests.{eq-eqb}
use Rattle.model.specs.declared.Refusal.{Refusal}
use Rattle.model.specs.Lists.{first}
use Rattle.model.specs.Sets.{View, members}
use Rattle.model.specs.Runs.{in_range, mark, outcome_in, switch_in}
use Rattle.model.specs.Scenarios.{places}
use Rattle.model.specs.Refusals.{good, is_good, applies, placed, first_of, lowest, refusal, check_run}
use Rattle.model.specs.Answers.{unless, ran}
use Rattle.laws.proofs.Bools.{not_i_false}
use Rattle.laws.proofs.Lists.{first_zero}
use Rattle.laws.proofs.Places.{members_e}
use Rattle.laws.proofs.Checks.{in_range_lem}
use Rattle.laws.proofs.Refusals.{number-good, number_bad}
use Rattle.laws.proofs.Ends.{Times}

module _ (v : View) (r : Refusal) (e : r ≡ refusal v) where
  pub good_of : r.number ≡ 0 → is_good (refusal v) ≡ true
  good_of = number-good (refusal v) r e

  pub bad_of : (r.number ≡ 0 → ⊥) → is_good (refusal v) ≡ false
  bad_of = number_bad (refusal v) r e

module _ (v : View) (c : List ℕ) (g : is_good (refusal v) ≡ true) where
  pub ran-good : check_run v c ≡ good
      → ran v c ≡ record { refusal = good; finishes = places v (λ j. mark (outcome_in v c j)); switch = switch_in v c }
  unfolding ran unless first_of is_good good
  ran-good e = rw g (rw e refl)

  pub times_pass : Times v c → check_run v c ≡ good
  unfolding check_run lowest placed applies
  times_pass r =
      let none = first_zero (λ j. not (in_range v c j)) (members v.policy)
      (λ j m. not_i_false ((in_range_lem v c j).1 (r j (members_e v.policy j m)))) in
      rw (eq-eqb (first (λ j. not (in_range v c j)) (members v.policy)) 0 none) refl

  pub ran-times : Times v c
      → ran v c ≡ record { refusal = good; finishes = places v (λ j. mark (outcome_in v c j)); switch = switch_in v c }
  ran-times r = ran-good (times_pass r)
