use mathlib.Core.Path.{refl}
use native.Mathlib.Omega.{arith}
use Rattle.laws.proofs.Exits.{exit}
use Rattle.plan_text.proofs.Rows.{row_whole, row_first, row_none}
use Rattle.plan_text.proofs.Several.{begun, one_more, one_stuck, all_read}
use Rattle.plan_text.proofs.reader.Reader.line.Goals as goal

pub loop-i-init : goal.loop-i-init
loop-i-init c = begun _ _ _ _ (row_whole _ _) _ refl

pub returns-in_err-value : goal.returns-in_err-value
returns-in_err-value c =
    rw (exit _ _ c.from_residual.ensures.1)
    (one_stuck _ _ _ _ _ _ _ c.loop-i.invariant _ (row_first _ _ _ _ _ c.loop-i-test.true c.limit_at.ensures c.behind_at.ensures) _ _ c.number.ensures.read _ c.in_err-value.was _)

pub loop-i-preserved : goal.loop-i-preserved
loop-i-preserved c =
    one_more _ _ _ _ _ _ _ c.loop-i.invariant _ (row_first _ _ _ _ _ c.loop-i-test.true c.limit_at.ensures c.behind_at.ensures) _ _ c.number.ensures.read
    c.loop-i-test.true _ c.in_ok-value.was

pub returns : goal.returns
returns c = all_read _ _ _ _ _ _ _ c.loop-i.invariant (row_none _ _) (omega arith) c.loop-i-test.false
