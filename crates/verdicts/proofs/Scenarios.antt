-- The run of a scenario: its times lie in their range, so that it is not refused, and it ends as the model's does.
--   scenario-range   == the times of a scenario are those of a run
--   scenario-ran     == what its execution answers;  row-ran, ends-ran: its finishes are the scenario's row
-- Assumes nothing.
use Prim.Native.Nat.{ℕ}
use mathlib.Core.Path.{◌≡◌, refl, ◌∙◌, ap}
use mathlib.Core.Bool.{true}
use mathlib.Core.List.{List}
use Rattle.model.specs.declared.Ran.{Ran}
use Rattle.model.specs.declared.Scenario.{Scenario}
use Rattle.model.specs.declared.Scenario.TheVariants.{Lo, Hi}
use Rattle.model.specs.declared.Set.{Set}
use Rattle.model.specs.Sets.{View, view}
use Rattle.model.specs.Scenarios.{times_of, finish_in, row}
use Rattle.model.specs.Refusals.{is_good, refusal}
use Rattle.model.specs.Answers.{ran}
use Rattle.laws.proofs.Answers.{ran-times}
use Rattle.laws.proofs.Ends.{Times}
use Rattle.laws.proofs.Sound.{Sound}
use Rattle.laws.proofs.Turns.{lo-range, hi-range}
use Rattle.runs.specs.Engine.{run_of}
use Rattle.verdicts.specs.Tests.{IsScenario}
use Rattle.verdicts.proofs.Entries.{sound}

scenario-range : (v : View) → Sound v → (y : Scenario) → IsScenario v y → Times v (times_of v y)
unfolding times_of
scenario-range v h Lo i = lo-range v h
scenario-range v h (Hi j) i = hi-range v h j i.0 i.1

-- the run of a scenario ends as its row says
row_is : (v : View) (y : Scenario) → (run_of v (times_of v y)).finishes ≡ row v y
unfolding run_of row finish_in
row_is v y = refl

pub row-ran : (v : View) (y : Scenario) (r : Ran) → r ≡ run_of v (times_of v y) → r.finishes ≡ row v y
row-ran v y r e = ap (λ (z : Ran). z.finishes) e ∙ row_is v y

module _ (s : Set) (g : is_good (refusal (view s)) ≡ true) (y : Scenario) (i : IsScenario (view s) y) (c : List ℕ) (r : Ran)
    (f : c ≡ times_of (view s) y) (e : r ≡ ran (view s) c) where
  pub scenario-ran : r ≡ run_of (view s) (times_of (view s) y)
  unfolding run_of
  scenario-ran =
      e ∙ ap (ran (view s)) f ∙ ran-times (view s) (times_of (view s) y) g (scenario-range (view s) (sound s g) y i)

  pub ends-ran : r.finishes ≡ row (view s) y
  ends-ran = row-ran (view s) y r scenario-ran
