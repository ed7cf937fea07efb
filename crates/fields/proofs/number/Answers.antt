-- `number` meets its contract: the first digit is looked at here, the others by `more`. Assumes nothing.
use mathlib.Core.Path.{sym, ◌∙◌}
use Rattle.forms.proofs.Numbers.{begins_e}
use Rattle.fields.proofs.Digits.{number-ends, number_stops, number-goes}
use Rattle.fields.proofs.number.Goals as goal

pub returns-in_default : goal.returns-in_default
returns-in_default c = number-ends _ _ _ _ _ c.in_default.ensures.lookup.3

pub returns-then-not-begins : goal.returns-then-not-begins
returns-then-not-begins c =
    let (h, e) = c.in-Some.ensures.lookup.3 in
    number_stops _ _ _ _ _ h (rw (← e 0) (sym c.begins.ensures ∙ c.if-not-begins.true))

pub overflow_sub-b : goal.overflow_sub-b
overflow_sub-b c = (begins_e _ _ _ (sym c.begins.ensures ∙ c.if-not-begins.false)).0

pub returns : goal.returns
returns c =
    let (h, e) = c.in-Some.ensures.lookup.3 in
    number-goes _ _ _ _ _ h _ (rw (← e 0) (sym c.begins.ensures ∙ c.if-not-begins.false)) (rw (← e 0, ← c.from.ensures) c.more.ensures)
