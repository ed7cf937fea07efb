-- What an unfit answer says.
--   ScenarioOf v x  == x is a scenario of v
--   Earlier x y     == scenario x comes before scenario y in the test
--   Missed v m      == m is a required miss of a scenario of v, of its lowest such job, and no earlier scenario has one
use Rattle.std.specs.Prelude.{ℕ, ◌<◌, ◌≡◌, true, false}
use Rattle.model.specs.declared.Scenario.{Scenario}
use Rattle.model.specs.declared.Scenario.TheVariants.{Lo, Hi}
use Rattle.model.specs.declared.Miss.{Miss}
use Rattle.model.specs.Sets.{View, critical}
use Rattle.model.specs.Runs.{missed, meets}
use Rattle.model.specs.Scenarios.{times_of, finish_in}

abbrev pub ScenarioOf : View → Scenario → Type 0
ScenarioOf v Lo = Unit
ScenarioOf v (Hi J) = (v.policy.part J ≡ true) × (critical v.policy J ≡ true)

abbrev pub Earlier : Scenario → Scenario → Type 0
Earlier Lo Lo = ⊥
Earlier Lo (Hi J) = Unit
Earlier (Hi I) Lo = ⊥
Earlier (Hi I) (Hi J) = I < J

pub record Missed (v : View) (m : Miss) : Type 0 where
  pub scenario : ScenarioOf v m.scenario
  pub job : v.policy.part m.job ≡ true
  pub misses : missed v (times_of v m.scenario) m.job ≡ true
  pub finish : finish_in v m.scenario m.job ≡ m.finish
  pub lowest : (i : ℕ) → v.policy.part i ≡ true → i < m.job → missed v (times_of v m.scenario) i ≡ false
  pub earliest : (x : Scenario) → ScenarioOf v x → Earlier x m.scenario → meets v (times_of v x) ≡ true
