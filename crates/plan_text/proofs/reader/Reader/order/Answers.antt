-- `order` meets its contract: the count's line, then the line of its entries. Assumes nothing.
use mathlib.Core.Path.{refl, ◌∙◌}
use lib.Seq.{length-take-le}
use Rattle.laws.proofs.Exits.{exit}
use Rattle.plan_text.proofs.Orders.{count_stuck, line_stuck, order_read}
use Rattle.plan_text.proofs.reader.Reader.order.Goals as goal

pub returns-in-Err : goal.returns-in-Err
returns-in-Err c = count_stuck _ _ _ _ c.count.ensures _ c.in-Err.is _ c.count.ensures.same

pub returns-in_err-line-in-Ok : goal.returns-in_err-line-in-Ok
returns-in_err-line-in-Ok c =
    rw (exit _ _ c.from_residual.ensures.1)
    (line_stuck _ _ _ _ c.count.ensures _ c.in-Ok.is _ (length-take-le _ _ c.requires) _ _ _ c.line.ensures _ c.in_err-line-in-Ok.was)

pub returns-in_ok-line-in-Ok : goal.returns-in_ok-line-in-Ok
returns-in_ok-line-in-Ok c =
    order_read _ _ _ _ c.count.ensures _ c.in-Ok.is _ (length-take-le _ _ c.requires) _ _ _ c.line.ensures _ c.in_ok-line-in-Ok.was (c.line.auto.values ∙ length-take-le _ _ c.requires) _ refl
