-- `read` meets its contract: its answer is the one by the scan, which is the one that document 01 asks for. Assumes nothing.
use mathlib.Core.Path.{refl}
use Rattle.std.proofs.Common.{rules}
use Rattle.readings.specs.Readings.{answer, refused_at}
use Rattle.plan_text.proofs.Plans.{reads_set, reads_stuck}
use Rattle.plan_text.proofs.read.Goals as goal

pub returns-in-Ok : goal.returns-in-Ok
unfolding answer
returns-in-Ok c = reads_set _ _ _ c.in-Ok.ensures refl

pub returns-in-Err : goal.returns-in-Err
unfolding answer refused_at
returns-in-Err c = reads_stuck _ _ _ c.in-Err.ensures (search rules)
