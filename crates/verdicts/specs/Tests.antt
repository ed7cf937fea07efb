-- The scenarios by number, and what the search over them finds.
--   numbered x           == scenario x: 0 is LO, and j is HI of job j
--   plays v x            == x is a scenario of the set
--   scenario_at v x      == scenario x, where it is one of the set's
--   IsScenario v y       == y is a scenario of the set
--   time_in v x j        == the running time of job j in scenario HI of job x
--   IsVerdict v x        == x is the verdict
--   found v              == the verdict found, with the times and the worst finishes beside it
use Rattle.std.specs.Prelude.{ℕ, ◌≡◌, Bool, true, cond, ◌||◌, eqb, Option, Some, None, Ok as Found}
use Rattle.model.specs.declared.Scenario.{Scenario}
use Rattle.model.specs.declared.Scenario.TheVariants.{Lo, Hi}
use Rattle.model.specs.declared.Assessed.{Assessed}
use Rattle.model.specs.declared.Miss.{Miss}
use Rattle.model.specs.declared.Verdict.{Verdict}
use Rattle.model.specs.declared.Verdict.TheVariants.{Unfit}
use Rattle.model.specs.Sets.{View, critical}
use Rattle.model.specs.Runs.{done_at}
use Rattle.model.specs.Scenarios.{lo_times, turn, hi_time, verdict, times_beside, worsts_beside}

unfoldable pub numbered : ℕ → Scenario
numbered x = cond (eqb x 0) Lo (Hi x)

-- scenario x is one of the set, where x is at most N
unfoldable pub plays : View → ℕ → Bool
plays v x = eqb x 0 || critical v.policy x

unfoldable pub scenario_at : View → ℕ → Option Scenario
scenario_at v x = cond (plays v x) (Some (numbered x)) None

abbrev pub IsScenario : View → Scenario → Type 0
IsScenario v Lo = Unit {0}
IsScenario v (Hi j) = (v.policy.part j ≡ true) × (critical v.policy j ≡ true)

unfoldable pub time_in : View → ℕ → ℕ → ℕ
time_in v x = hi_time v x (done_at v.policy (lo_times v) (turn v x))

-- x is the verdict, and the scenario that it names is one of the set's
pub record IsVerdict (v : View) (x : Verdict) : Type 0 where
  pub is : x ≡ verdict v
  pub scenario : (m : Miss) → x ≡ Unfit m → IsScenario v m.scenario

unfoldable pub found : View → Assessed
found v =
    record {
      judged = record { judgement = Found (verdict v); times = times_beside v (verdict v) };
      worsts = worsts_beside v (verdict v);
    }
