-- `scenario` meets its contract: LO is a scenario of every set, and HI of a job one where the job is a HI job.
use mathlib.Core.Path.{sym, ◌∙◌}
use Prim.Native.Nat.{◌-◌}
use native.Mathlib.Omega.{arith}
use Rattle.model.specs.Sets.{blank, job}
use Rattle.verdicts.proofs.Entries.{critical_is}
use Rattle.verdicts.proofs.Search.{at-lo, at-hi, at-none}
use Rattle.verdicts.proofs.published.Test.scenario.Goals as goal

pub returns-then-x-eq0 : goal.returns-then-x-eq0
returns-then-x-eq0 c = at-lo _ _ c.if-x-eq0.true

pub returns-then-eq : goal.returns-then-eq
unfolding blank job
returns-then-eq c =
    at-hi _ _ (omega arith) (sym c.if-eq.true ∙ critical_is _ _ c.members.ensures.jobs (c.args.x - 1) (omega arith) _ c.eq.ensures)

pub returns-else-eq : goal.returns-else-eq
unfolding blank job
returns-else-eq c =
    at-none _ _ (omega arith) (sym c.if-eq.false ∙ critical_is _ _ c.members.ensures.jobs (c.args.x - 1) (omega arith) _ c.eq.ensures)
