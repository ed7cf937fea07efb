use native.Mathlib.Omega.{arith}
use mathlib.Core.Path.{◌∙◌}
use Rattle.runs.proofs.Starts.{start_zero, start-more, past, within, started}
use Rattle.runs.proofs.engine.Progress.start.Goals as goal
use Rattle.runs.proofs.engine.Progress.start.Goals.{then-n-i, else-n-i}

pub loop-i-init : goal.loop-i-init
loop-i-init c = start_zero _ _

pub loop-i-preserved : goal.loop-i-preserved
loop-i-preserved c =
    start-more _ _ _ _ _ (omega arith) c.loop-i.invariant
    (elim c.if-n-i.branch [ then-n-i w ↦ w.done-is ∙ past _ _ _ w.if-n-i.true | else-n-i w ↦ w.done-is ∙ within _ _ _ w.if-n-i.false ])

pub returns : goal.returns
returns c = started _ _ _ _ (omega arith) c.loop-i.invariant
