-- `of` meets its contract: the LO budgets lie in their range, so the run of scenario 0 is not refused.
use mathlib.Core.Path.{refl}
use Rattle.laws.proofs.Exits.{exit}
use Rattle.checks.proofs.Checked.{passes, refused}
use Rattle.model.specs.declared.Scenario.TheVariants.{Lo}
use Rattle.verdicts.proofs.Entries.{few}
use Rattle.verdicts.proofs.Raised.{times_lo}
use Rattle.verdicts.proofs.Scenarios.{ends-ran}
use Rattle.verdicts.proofs.published.Test.of.Goals as goal

pub returns-in_err-check : goal.returns-in_err-check
returns-in_err-check c = rw (exit _ _ c.from_residual.ensures.1) (refused _ _ c.in_err-check.ensures)

pub invariant_of-result : goal.invariant_of-result
invariant_of-result c =
    let g = passes _ c.in_ok-check.ensures in
    record {
      few = few _ g;
      good = g;
      ends_are = ends-ran _ g Lo tt _ _ (times_lo _ Lo _ refl c.lo_times.ensures) c.execute.ensures;
    }
