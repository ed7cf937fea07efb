-- `checks::orders::allowed` meets its contract. The loop's invariant: the marks of the numbers up to i are set, and no other.
use Prim.Native.Nat.{ℕ}
use mathlib.Core.Bool.{◌&&◌}
use mathlib.Core.Path.{◌≡◌}
use lib.Dec.{leb}
use lib.ListN.{length}
use Rattle.model.specs.Sets.{view}
use Rattle.rules.specs.Rules.{may_stand, marked}
use Rattle.checks.proofs.orders.allowed.Given as goal

abbrev pub invariant-loop-i : goal.invariant-loop-i
invariant-loop-i l = (length l.ok ≡ 64) × ((j : ℕ) → marked l.ok j ≡ (leb j l.i && may_stand (view l.s) l.m j))
