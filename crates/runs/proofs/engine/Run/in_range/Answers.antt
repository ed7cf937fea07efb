use mathlib.Core.Path.{◌∙◌}
use native.Mathlib.Omega.{arith}
use Rattle.model.specs.Refusals.{refused}
use Rattle.runs.proofs.RangeLaws.{inside_more, outside-here, outside-none, refused_9, passed_9}
use Rattle.runs.proofs.engine.Run.in_range.Goals as goal

pub loop-i-init : goal.loop-i-init
loop-i-init c = λ m q. absurd (omega arith)

pub returns-then-not-in_range : goal.returns-then-not-in_range
unfolding refused
returns-then-not-in_range c =
    c.refuse.ensures
    ∙ refused_9 _ _ _ (outside-here _ c.requires _ _ _ c.loop-i.invariant c.loop-i-test.true c.in_range.ensures c.if-not-in_range.true) (omega arith)

pub loop-i-preserved : goal.loop-i-preserved
loop-i-preserved c = inside_more _ c.requires _ _ _ c.loop-i.invariant c.in_range.ensures c.if-not-in_range.false

pub returns : goal.returns
returns c = passed_9 _ _ (outside-none _ c.requires _ _ c.loop-i.invariant c.loop-i-test.false)
