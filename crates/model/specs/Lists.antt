-- The few words on lists and numbers that the other files use.
--   at l j d      == what a list with a place for each job holds for job j; d where j names no place
--   held l j      == what it holds for job j, if j names a place (a word of the code: no definition stands on it)
--   from k n      == the n numbers k, k + 1, ..
--   numbers n     == 1 to n
--   only test l   == the entries of l that pass, in their order
--   first test l  == the first entry of l that passes; 0 where none does
--   any test l    == some entry of l passes
--   mem j l       == j stands in l
--   least test n  == the first number below n that passes; n where none does
--   total f l     == the sum of f over l
--   largest f l   == the largest f of an entry of l; 0 where l is empty
--   cut d n l     == the first n entries of l, with d for each that l lacks
use Rattle.std.specs.Prelude.{ℕ, zero, suc, ◌+◌, ◌-◌, max, Bool, false, cond, ◌||◌, List, [], ◌∷◌, eqb, ltb, get_or, slice_get, Option, None}

unfoldable pub held : {A : Type 0} → List A → ℕ → Option A
held l j = cond (eqb j 0) None (slice_get l (j - 1))

unfoldable pub at {ℓ} : {A : Type ℓ} → List A → ℕ → A → A
at l j d = cond (eqb j 0) d (get_or l (j - 1) d)

unfoldable pub from : ℕ → ℕ → List ℕ
from k zero = []
from k (suc n) = k ∷ from (suc k) n

unfoldable pub numbers : ℕ → List ℕ
numbers n = from 1 n

unfoldable pub only : (ℕ → Bool) → List ℕ → List ℕ
only test [] = []
only test (x ∷ l) = cond (test x) (x ∷ only test l) (only test l)

unfoldable pub first : (ℕ → Bool) → List ℕ → ℕ
first test [] = 0
first test (x ∷ l) = cond (test x) x (first test l)

unfoldable pub any : (ℕ → Bool) → List ℕ → Bool
any test [] = false
any test (x ∷ l) = test x || any test l

unfoldable pub mem : ℕ → List ℕ → Bool
mem j l = any (eqb j) l

unfoldable pub least : (ℕ → Bool) → ℕ → ℕ
least test zero = zero
least test (suc n) = let r = least test n in cond (ltb r n) r (cond (test n) n (suc n))

unfoldable pub total : (ℕ → ℕ) → List ℕ → ℕ
total f [] = 0
total f (x ∷ l) = f x + total f l

unfoldable pub largest {ℓ} : {A : Type ℓ} → (A → ℕ) → List A → ℕ
largest f [] = 0
largest f (x ∷ l) = max (f x) (largest f l)

unfoldable pub cut {ℓ} : {A : Type ℓ} → A → ℕ → List A → List A
cut d zero l = []
cut d (suc n) [] = d ∷ cut d n []
cut d (suc n) (x ∷ l) = x ∷ cut d n l
