-- Lists whose entries rise, as the jobs that take part do.
--   Ascending l    == the entries of l rise
--   first-lowest   == the first that passes is the lowest;  first_is: and the lowest that passes is the first
-- Assumes nothing.
use Prim.Native.Nat.{ℕ, zero, suc, ◌<◌}
use mathlib.Core.Path.{◌≡◌, ◌∙◌, ap}
use mathlib.Core.Bool.{Bool, true, false}
use mathlib.Core.List.{List, [], ◌∷◌}
use mathlib.Core.Logic.{⊎_elim}
use native.Mathlib.Omega.{arith}
use lib.Dec.{ltb}
use Rattle.model.specs.Lists.{from, numbers, only, first, mem}
use Rattle.model.specs.Sets.{Policy, members}
use Rattle.laws.proofs.Bools.{tests, split, clash}
use Rattle.laws.proofs.Lists.{mem_cases, not_mem_nil, only_e, first_some, first_not_zero}
use Rattle.laws.proofs.Sums.{mem-from}

unfoldable pub Ascending : List ℕ → Type 0
Ascending [] = Unit
Ascending (x ∷ l) = ((j : ℕ) → mem j l ≡ true → x < j) × Ascending l

from_ascending : (k n : ℕ) → Ascending (from k n)
unfolding from Ascending
from_ascending k zero = tt
from_ascending k (suc n) = (λ j m. omega (arith, mem-from (suc k) n j m), from_ascending (suc k) n)

pub only_ascending : (test : ℕ → Bool) (l : List ℕ) → Ascending l → Ascending (only test l)
unfolding only Ascending
only_ascending test [] r = tt
only_ascending test (x ∷ l) (h, r) =
    split (test x) (λ t. rw t (λ j m. h j (only_e test l j m).0, only_ascending test l r)) (λ f. rw f (only_ascending test l r))

pub members_ascending : (p : Policy) → Ascending (members p)
unfolding members numbers
members_ascending p = only_ascending p.part (from 1 64) (from_ascending 1 64)

pub first-lowest : (test : ℕ → Bool) (l : List ℕ) → Ascending l → (i : ℕ) → mem i l ≡ true → i < first test l → test i ≡ false
unfolding first Ascending
first-lowest test [] r i m q = not_mem_nil i m
first-lowest test (x ∷ l) (h, r) i m q =
    split (test x)
    (λ t.
    ⊎_elim (λ e. absurd (omega (arith, e, rw t at q))) (λ n. absurd (omega (arith, h i n, rw t at q))) (mem_cases i x l m))
    (λ f. ⊎_elim (λ (e : i ≡ x). ap test e ∙ f) (λ n. first-lowest test l r i n (rw f at q)) (mem_cases i x l m))

pub first_is : (test : ℕ → Bool) (l : List ℕ) → Ascending l → mem 0 l ≡ false → (j : ℕ) → mem j l ≡ true → test j ≡ true
    → ((i : ℕ) → mem i l ≡ true → i < j → test i ≡ false) → first test l ≡ j
first_is test l r z j m t low =
    let f : ℕ = first test l in
    let s = first_some test l (first_not_zero test l j z m t) in
    split (ltb f j)
    (λ q. clash s.1 (low f s.0 (omega (tests, q))))
    (λ q.
    split (ltb j f) (λ p. clash t (first-lowest test l r j m (omega (tests, p)))) (λ p. omega (tests, p, q)))
