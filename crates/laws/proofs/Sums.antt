-- Laws of sums and of the largest over a list, and of the numbers from k on.
-- Assumes nothing.
use Prim.Native.Nat.{ℕ, zero, suc, ◌+◌, ◌-◌, ◌≤◌, ◌<◌, max}
use mathlib.Core.Path.{◌≡◌, refl, sym, ◌∙◌, ap, subst}
use mathlib.Core.Bool.{Bool, true, not}
use mathlib.Core.List.{List, [], ◌∷◌, map}
use mathlib.Core.Logic.{⊎_elim}
use native.Mathlib.Omega.{arith}
use lib.Dec.{eqb, ltb}
use lib.ListN.{get_or}
use borrow.Author.Tests.{ne_eqb, eqb-true, eqb-false, not-true, ltb-true}
use Rattle.model.specs.Lists.{at, from, numbers, only, mem, total, largest}
use Rattle.laws.proofs.Lists.{distinct}
use Rattle.laws.proofs.Bools.{tests, split, clash, not_i, and_l, and_r, and_i}
use Rattle.laws.proofs.Lists.{mem_head, mem_tail, mem_cases, not_mem_nil, only_e}

-- total ------------------------------------------------------------------------------------------------------------------------------

pub total_le : (f g : ℕ → ℕ) (l : List ℕ) → ((j : ℕ) → mem j l ≡ true → f j ≤ g j) → total f l ≤ total g l
unfolding total
total_le f g [] h = omega arith
total_le f g (x ∷ l) h = omega (arith, h x (mem_head x l), total_le f g l (λ j m. h j (mem_tail j x l m)))

-- smaller at one place
pub total_lt : (f g : ℕ → ℕ) (l : List ℕ) (k : ℕ) → mem k l ≡ true → f k < g k → ((j : ℕ) → mem j l ≡ true → f j ≤ g j)
    → total f l < total g l
unfolding total
total_lt f g [] k m s h = not_mem_nil k m
total_lt f g (x ∷ l) k m s h =
    ⊎_elim
    (λ e. omega (arith, subst (λ i. f i < g i) e s, total_le f g l (λ j n. h j (mem_tail j x l n))))
    (λ n. omega (arith, h x (mem_head x l), total_lt f g l k n s (λ j q. h j (mem_tail j x l q))))
    (mem_cases k x l m)

-- each no larger, and the sum no smaller: equal at each place
pub total_eq : (f g : ℕ → ℕ) (l : List ℕ) (k : ℕ) → mem k l ≡ true → ((j : ℕ) → mem j l ≡ true → f j ≤ g j) → total g l ≤ total f l
    → f k ≡ g k
total_eq f g l k m h s =
    split (ltb (f k) (g k))
    (λ p. absurd (omega (tests, s, total_lt f g l k m (ltb-true (f k) (g k) p) h)))
    (λ p. omega (tests, p, h k m))

pub total_cong : (f g : ℕ → ℕ) (l : List ℕ) → ((j : ℕ) → mem j l ≡ true → f j ≡ g j) → total f l ≡ total g l
unfolding total
total_cong f g [] h = refl
total_cong f g (x ∷ l) h = omega (arith, h x (mem_head x l), total_cong f g l (λ j m. h j (mem_tail j x l m)))

-- one more at the single place k, and elsewhere no more
pub total_one : (f g : ℕ → ℕ) (l : List ℕ) (k : ℕ) → distinct l ≡ true
    → ((j : ℕ) → mem j l ≡ true → (j ≡ k → ⊥) → f j ≤ g j) → f k ≤ suc (g k) → total f l ≤ suc (total g l)
unfolding total distinct
total_one f g [] k d h s = omega arith
total_one f g (x ∷ l) k d h s =
    split (eqb x k)
    (λ p.
    let e : x ≡ k = eqb-true x k p in
    let rest : total f l ≤ total g l =
    total_le f g l
    (λ j m. h j (mem_tail j x l m)
    (λ q. clash (subst (λ i. mem i l ≡ true) (q ∙ sym e) m) (not-true (mem x l) (and_l (not (mem x l)) (distinct l) d)))) in
    omega (arith, subst (λ i. f i ≤ suc (g i)) (sym e) s, rest))
    (λ p.
    omega (
      arith,
      h x (mem_head x l) (eqb-false x k p),
      total_one f g l k (and_r (not (mem x l)) (distinct l) d) (λ j m. h j (mem_tail j x l m)) s,
    ))

-- largest ----------------------------------------------------------------------------------------------------------------------------

pub largest_le : (f : ℕ → ℕ) (l : List ℕ) (j : ℕ) → mem j l ≡ true → f j ≤ largest f l
unfolding largest
largest_le f [] j m = not_mem_nil j m
largest_le f (x ∷ l) j m =
    ⊎_elim (λ e. subst (λ i. f i ≤ max (f x) (largest f l)) (sym e) (omega arith))
    (λ n. omega (arith, largest_le f l j n))
    (mem_cases j x l m)

-- the numbers from k on --------------------------------------------------------------------------------------------------------------

pub from-mem : (k n j : ℕ) → k ≤ j → j < k + n → mem j (from k n) ≡ true
unfolding from
from-mem k zero j p q = absurd (omega arith)
from-mem k (suc n) j p q =
    split (eqb j k)
    (λ e. subst (λ i. mem i (k ∷ from (suc k) n) ≡ true) (sym (eqb-true j k e)) (mem_head k (from (suc k) n)))
    (λ e.
    let ne : j ≡ k → ⊥ = eqb-false j k e in
    mem_tail j k (from (suc k) n) (from-mem (suc k) n j (omega (arith, ne)) (omega arith)))

pub mem-from : (k n j : ℕ) → mem j (from k n) ≡ true → (k ≤ j) × (j < k + n)
unfolding from
mem-from k zero j m = not_mem_nil j m
mem-from k (suc n) j m =
    ⊎_elim {C = (k ≤ j) × (j < k + suc n)}
    (λ e. omega arith)
    (λ r. omega (arith, mem-from (suc k) n j r))
    (mem_cases j k (from (suc k) n) m)

pub from-distinct : (k n : ℕ) → distinct (from k n) ≡ true
unfolding from distinct
from-distinct k zero = refl
from-distinct k (suc n) =
    and_i
    (not_i (split (mem k (from (suc k) n)) (λ m. absurd (omega (arith, mem-from (suc k) n k m))) (λ f. f)))
    (from-distinct (suc k) n)

pub only-distinct : (test : ℕ → Bool) (l : List ℕ) → distinct l ≡ true → distinct (only test l) ≡ true
unfolding only distinct
only-distinct test [] d = refl
only-distinct test (x ∷ l) d =
    let rest = only-distinct test l (and_r (not (mem x l)) (distinct l) d) in
    split (test x)
    (λ t. rw t
    (and_i
    (not_i
    (split (mem x (only test l))
    (λ m. clash (only_e test l x m).0 (not-true (mem x l) (and_l (not (mem x l)) (distinct l) d)))
    (λ f. f)))
    rest))
    (λ f. rw f rest)

-- a list with a place for each of the numbers 1 to n ---------------------------------------------------------------------------------

pub get_or-from {ℓ} : {A : Type ℓ} (f : ℕ → A) (k n i : ℕ) (d : A) → i < n → get_or (map f (from k n)) i d ≡ f (k + i)
unfolding from
get_or-from f k zero i d h = absurd (omega arith)
get_or-from f k (suc n) zero d h = ap f (omega arith)
get_or-from f k (suc n) (suc i) d h = get_or-from f (suc k) n i d (omega arith) ∙ ap f (omega arith)

pub at-numbers {ℓ} : {A : Type ℓ} (f : ℕ → A) (n j : ℕ) (d : A) → 1 ≤ j → j ≤ n → at (map f (numbers n)) j d ≡ f j
unfolding at numbers
at-numbers f n j d p q =
    rw (ne_eqb j 0 (omega arith)) (get_or-from f 1 n (j - 1) d (omega arith) ∙ ap f (omega arith))
