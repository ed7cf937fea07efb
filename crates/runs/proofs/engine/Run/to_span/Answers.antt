use native.Mathlib.Omega.{arith}
use mathlib.Core.Path.{◌∙◌}
use Rattle.runs.specs.Engine.{progress_at}
use Rattle.runs.proofs.Advance.{can_step, run-next, written}
use Rattle.runs.proofs.Room.{filled_none}
use Rattle.runs.proofs.engine.Run.to_span.Goals as goal
use Rattle.runs.proofs.engine.Run.to_span.Goals.{then-from-table, else-from-table}

pub loop-t-init : goal.loop-t-init
unfolding progress_at
loop-t-init c = (c.start-g.ensures, λ _. filled_none _ _)

pub step-requires : goal.step-requires
step-requires c = can_step _ _ _ _ c.loop-t.invariant.0 (omega (arith, c.ranges.span.fits))

pub loop-t-preserved : goal.loop-t-preserved
loop-t-preserved c =
    let g = run-next _ _ _ _ c.loop-t.invariant.0 _ c.step.ensures in (
      g,
      λ h.
          elim c.if-from-table.branch [
            | then-from-table w ↦ w.table-is ∙ written _ _ _ _ _ _ _ g (omega arith) (c.loop-t.invariant.1 h) w.from-then-from-table.ensures
            | else-from-table w ↦ absurd (omega arith)
          ],
    )
