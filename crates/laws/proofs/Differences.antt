-- The difference of two natural numbers, as a signed one.
--   minus   == by cases on which is the larger
-- Assumes nothing.
use Prim.Native.Nat.{ℕ, zero, suc, ◌-◌}
use mathlib.Core.Path.{◌≡◌, refl, ap}
use mathlib.Core.Bool.{cond}
use native.Mathlib.Omega.{arith}
use lib.Dec.{ltb}
use lib.IntN.{pos, negsuc, ◌-ℤ◌}
use borrow.Author.Tests.{le-ltb}

pub minus : (a b : ℕ) → pos a -ℤ pos b ≡ cond (ltb a b) (negsuc (b - suc a)) (pos (a - b))
minus a zero = rw (le-ltb a 0 (omega arith)) (ap pos (omega arith))
minus a (suc b) = refl
