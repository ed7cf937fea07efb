-- A word on orders.
--   subsequence l m == l is what is left of m when some of its entries are left out
use Rattle.std.specs.Prelude.{ℕ, Bool, true, false, cond, List, [], ◌∷◌, eqb}

unfoldable pub subsequence : List ℕ → List ℕ → Bool
subsequence [] m = true
subsequence (x ∷ l) [] = false
subsequence (x ∷ l) (y ∷ m) = cond (eqb x y) (subsequence l m) (subsequence (x ∷ l) m)
