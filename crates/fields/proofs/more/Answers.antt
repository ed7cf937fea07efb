use mathlib.Core.Path.{refl, sym, ◌∙◌}
use native.Mathlib.Omega.{arith}
use Rattle.forms.proofs.Numbers.{grows_e}
use Rattle.fields.proofs.Digits.{more-ends, more-done, more_stops, more-next}
use Rattle.fields.proofs.more.Goals as goal

pub loop-i-init : goal.loop-i-init
loop-i-init c = record { same = refl; small = omega arith }

pub returns-then-b-behind : goal.returns-then-b-behind
returns-then-b-behind c = more-done _ _ _ _ _ _ _ c.loop-i.invariant c.loop-i-test.true c.if-b-behind.true

pub returns-then-not-grows : goal.returns-then-not-grows
returns-then-not-grows c = more_stops _ _ _ _ _ _ _ c.loop-i.invariant c.loop-i-test.true c.if-b-behind.false (sym c.grows.ensures ∙ c.if-not-grows.true)

pub overflow_mul-value : goal.overflow_mul-value
overflow_mul-value c = omega (arith, grows_e _ _ _ (sym c.grows.ensures ∙ c.if-not-grows.false))

pub overflow_sub-b : goal.overflow_sub-b
overflow_sub-b c = omega (arith, grows_e _ _ _ (sym c.grows.ensures ∙ c.if-not-grows.false))

pub overflow_add-value : goal.overflow_add-value
overflow_add-value c = omega (arith, grows_e _ _ _ (sym c.grows.ensures ∙ c.if-not-grows.false))

pub loop-i-preserved : goal.loop-i-preserved
loop-i-preserved c = rw c.from.ensures
    (more-next _ _ _ _ _ _ _ c.loop-i.invariant c.loop-i-test.true c.if-b-behind.false (omega arith) (sym c.grows.ensures ∙ c.if-not-grows.false))

pub returns : goal.returns
returns c = more-ends _ _ _ _ _ _ _ c.loop-i.invariant c.loop-i-test.false
