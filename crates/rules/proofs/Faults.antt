-- The first fault of an order, found place by place.
--   fault_cong    == only whether each number may stand counts
--   cut_is_take   == an order is cut as a slice is, where it has the places
--   mem_is_any    == a number stands in a list as `contains` says
--   unfit, repeats == the entry at place i may not stand, or stands before;  fault_passed: it may and does not, and the fault is further on
-- Assumes nothing.
use Prim.Native.Nat.{ℕ, zero, suc, ◌+◌, ◌<◌, ◌≤◌}
use mathlib.Core.Path.{◌≡◌, refl, sym, ◌∙◌, ap}
use mathlib.Core.Bool.{Bool, true, false, not, cond, ◌&&◌, ◌||◌}
use mathlib.Core.List.{List, [], ◌∷◌, ◌++◌}
use native.Mathlib.Omega.{arith}
use borrow.Author.Tests.{eq-eqb}
use lib.Dec.{eqb}
use lib.ListN.{length, get_or, take, drop}
use Rattle.std.specs.List.{list_any}
use Rattle.std.proofs.lemmas.List.{drop_more, take_more}
use Rattle.model.specs.Lists.{any, mem, cut}
use Rattle.model.specs.Refusals.{fault_from, fault}
use Rattle.laws.proofs.Bools.{split, same, tests, and_no_r}
use Rattle.rules.proofs.Laws.{or_swap}

from_cong : (f g : ℕ → Bool) (a b : List ℕ) (k : ℕ) (l : List ℕ) → ((j : ℕ) → (f j && not (mem j a)) ≡ (g j && not (mem j b)))
    → fault_from f a k l ≡ fault_from g b k l
unfolding fault_from any mem
from_cong f g a b k [] h = refl
from_cong f g a b k (x ∷ l) h =
    rw (h x)
    (ap (λ r. cond (g x && not (mem x b)) r k)
    (from_cong f g (x ∷ a) (x ∷ b) (suc k) l
    (λ j. split (eqb j x) (λ e. rw e (and_no_r (f j) refl ∙ sym (and_no_r (g j) refl))) (λ e. rw e (h j)))))

pub fault_cong : (f g : ℕ → Bool) (l : List ℕ) → ((j : ℕ) → f j ≡ g j) → fault f l ≡ fault g l
unfolding fault
fault_cong f g l h = from_cong f g [] [] 1 l (λ j. ap (λ b. b && not (mem j [])) (h j))

pub cut_is_take : (n : ℕ) (l : List ℕ) → n ≤ length l → cut 0 n l ≡ take n l
unfolding cut
cut_is_take zero l h = refl
cut_is_take (suc n) [] h = absurd (omega arith)
cut_is_take (suc n) (x ∷ l) h = ap (λ m. x ∷ m) (cut_is_take n l (omega arith))

pub mem_is_any : (x : ℕ) (l : List ℕ) → list_any (λ y. eqb y x) l ≡ mem x l
unfolding any mem
mem_is_any x [] = refl
mem_is_any x (y ∷ l) = rw (mem_is_any x l, let e : eqb y x ≡ eqb x y = same (λ p. eq-eqb x y (omega (tests, p))) (λ p. eq-eqb y x (omega (tests, p))) in e) refl

mem_last : (j x : ℕ) (l : List ℕ) → mem j (x ∷ l) ≡ mem j (l ++ (x ∷ []))
unfolding any mem
mem_last j x [] = refl
mem_last j x (y ∷ l) = or_swap (eqb j x) (eqb j y) (mem j l) ∙ ap (λ b. eqb j y || b) (mem_last j x l)

-- the entry at place i of an order
module _ (ok : ℕ → Bool) (l : List ℕ) (i : ℕ) (h : i < length l) where
  step : let x = get_or l i 0 in
      fault_from ok (take i l) (i + 1) (drop i l)
      ≡ cond (ok x && not (mem x (take i l))) (fault_from ok (x ∷ take i l) (suc (i + 1)) (drop (i + 1) l)) (i + 1)
  unfolding fault_from
  step = rw (drop_more l i 0 h) refl

  pub unfit : ok (get_or l i 0) ≡ false → fault_from ok (take i l) (i + 1) (drop i l) ≡ i + 1
  unfit e = step ∙ rw e refl

  pub repeats : mem (get_or l i 0) (take i l) ≡ true → fault_from ok (take i l) (i + 1) (drop i l) ≡ i + 1
  repeats e = step ∙ rw (e, and_no_r (ok (get_or l i 0)) refl) refl

  pub fault_passed : ok (get_or l i 0) ≡ true → mem (get_or l i 0) (take i l) ≡ false
      → fault_from ok (take i l) (i + 1) (drop i l) ≡ fault_from ok (take (i + 1) l) (i + 1 + 1) (drop (i + 1) l)
  fault_passed t f =
      let x = get_or l i 0 in
      step
      ∙ rw (t, f) refl
      ∙ (from_cong ok ok (x ∷ take i l) (take (i + 1) l) (suc (i + 1)) (drop (i + 1) l)
      (λ j. ap (λ b. ok j && not b) (mem_last j x (take i l) ∙ ap (mem j) (sym (take_more l i 0 h))))
      ∙ ap (λ k. fault_from ok (take (i + 1) l) k (drop (i + 1) l)) (let e : suc (i + 1) ≡ i + 1 + 1 = omega arith in e))
