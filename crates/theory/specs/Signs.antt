-- Words on signed numbers.
--   negative z     == z is below 0
--   IsSigned a b z == z lies between -a and b
use Rattle.std.specs.Prelude.{ℕ, ◌≤◌, ◌<◌, Bool, true, false, ℤ, pos, negsuc}

unfoldable pub negative : ℤ → Bool
negative (pos n) = false
negative (negsuc n) = true

-- `negsuc n` is -(n + 1)
unfoldable pub IsSigned : ℕ → ℕ → ℤ → Type 0
IsSigned a b (pos n) = n ≤ b
IsSigned a b (negsuc n) = n < a
