-- Counting entries: a list that names nobody twice, names only entries of m, and is at least as long as m, names every entry of m.
--   length_from, length_cut  == the n numbers from k on are n; a list cut at n has n entries
--   only_most, only_fewer    == those that pass a test are at most all; fewer, where an entry fails
--   pigeonhole               == the statement above
-- Assumes nothing.
use Prim.Native.Nat.{ℕ, zero, suc, ◌≤◌, ◌<◌}
use mathlib.Core.Path.{◌≡◌, refl, sym, ◌∙◌, ap, subst}
use mathlib.Core.Bool.{Bool, true, false, not}
use mathlib.Core.List.{List, [], ◌∷◌}
use mathlib.Core.Logic.{⊎_elim}
use native.Mathlib.Omega.{arith}
use lib.Dec.{eqb}
use lib.ListN.{length}
use borrow.Author.Tests.{eq-eqb, ne_eqb, eqb-true, eqb-false, not-true}
use Rattle.model.specs.Lists.{from, only, mem, cut}
use Rattle.laws.proofs.Lists.{distinct}
use Rattle.laws.proofs.Bools.{split, clash, not_i, not_i_false, and_l, and_r}
use Rattle.laws.proofs.Lists.{mem_head, mem_tail, mem_cases, not_mem_nil, only_i}

pub length_from : (k n : ℕ) → length (from k n) ≡ n
unfolding from
length_from k zero = refl
length_from k (suc n) = ap suc (length_from (suc k) n)

pub length_cut {ℓ} : {A : Type ℓ} (d : A) (n : ℕ) (l : List A) → length (cut d n l) ≡ n
unfolding cut
length_cut d zero l = refl
length_cut d (suc n) [] = ap suc (length_cut d n [])
length_cut d (suc n) (x ∷ l) = ap suc (length_cut d n l)

pub only_most : (test : ℕ → Bool) (l : List ℕ) → length (only test l) ≤ length l
unfolding only
only_most test [] = omega arith
only_most test (x ∷ l) =
    let r : length (only test l) ≤ length l = only_most test l in
    split (test x) (λ t. rw t (omega arith)) (λ f. rw f (omega arith))

pub only_fewer : (test : ℕ → Bool) (l : List ℕ) (k : ℕ) → mem k l ≡ true → test k ≡ false → length (only test l) < length l
unfolding only
only_fewer test [] k m h = not_mem_nil k m
only_fewer test (x ∷ l) k m h =
    ⊎_elim (λ (e : k ≡ x). rw (sym (ap test e) ∙ h) (omega (arith, only_most test l)))
    (λ (n : mem k l ≡ true).
    let r : length (only test l) < length l = only_fewer test l k n h in
    split (test x) (λ t. rw t (omega arith)) (λ f. rw f (omega arith)))
    (mem_cases k x l m)

-- m without its entries x
without : ℕ → List ℕ → List ℕ
without x m = only (λ j. not (eqb x j)) m

without_i : (x : ℕ) (m : List ℕ) (j : ℕ) → mem j m ≡ true → (j ≡ x → ⊥) → mem j (without x m) ≡ true
unfolding without
without_i x m j h n = only_i (λ i. not (eqb x i)) m j h (not_i (ne_eqb x j (λ e. n (sym e))))

without_fewer : (x : ℕ) (m : List ℕ) → mem x m ≡ true → length (without x m) < length m
unfolding without
without_fewer x m h = only_fewer (λ i. not (eqb x i)) m x h (not_i_false (eq-eqb x x refl))

pub pigeonhole : (l m : List ℕ) → distinct l ≡ true → ((j : ℕ) → mem j l ≡ true → mem j m ≡ true) → length m ≤ length l
    → (j : ℕ) → mem j m ≡ true → mem j l ≡ true
unfolding distinct
pigeonhole [] [] d s n j h = h
pigeonhole [] (y ∷ m) d s n j h = absurd (omega arith)
pigeonhole (x ∷ l) m d s n j h =
    split (eqb j x)
    (λ e. subst (λ k. mem k (x ∷ l) ≡ true) (sym (eqb-true j x e)) (mem_head x l))
    (λ e.
    mem_tail j x l
    (pigeonhole l (without x m) (and_r (not (mem x l)) (distinct l) d)
    (λ k q. without_i x m k (s k (mem_tail k x l q)) (λ z. clash (subst (λ i. mem i l ≡ true) z q) out))
    (omega (arith, without_fewer x m (s x (mem_head x l))))
    j
    (without_i x m j h (eqb-false j x e))))
  where
    out : mem x l ≡ false
    out = not-true (mem x l) (and_l (not (mem x l)) (distinct l) d)
