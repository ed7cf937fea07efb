-- `rules::orders::fault_of` meets its contract. The loop's invariant: the order's first fault is that of the entries still ahead, those before
-- place i having been met. Assumes nothing.
use Prim.Native.Nat.{◌+◌}
use mathlib.Core.Path.{◌≡◌}
use lib.ListN.{take, drop}
use Rattle.model.specs.Refusals.{fault_from, fault}
use Rattle.rules.specs.Rules.{marked}
use Rattle.rules.proofs.orders.fault_of.Given as goal

abbrev pub invariant-loop-i : goal.invariant-loop-i
invariant-loop-i l = fault (marked l.ok) l.order ≡ fault_from (marked l.ok) (take l.i l.order) (l.i + 1) (drop l.i l.order)
