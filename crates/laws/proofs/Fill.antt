-- Lists with a place for each of 64 jobs, and how a loop fills one, place by place.
--   map_same, map-length    == lists that agree at 1 to 64 are equal; such a list has 64 places
--   map_at, map-set         == what stands at a place; what a store does
--   mixed k f g             == f up to k, and g beyond;  mixed_zero, mixed-set, mixed_keep, mixed_all: before a loop, its turns, after it
--   up_to k f z             == f up to k, and z beyond;  up_to_zero, up_to_suc, up_to-more: before a loop, and its turn
--   up_to-end               == past the last place there is nothing to fill;  up_to-places: filled up to n, as the model writes it
-- Assumes nothing.
use Prim.Native.Nat.{ℕ, zero, suc, ◌+◌, ◌≤◌, ◌<◌, min}
use mathlib.Core.Path.{◌≡◌, refl, sym, ◌∙◌, ap}
use mathlib.Core.Bool.{cond, ◌&&◌}
use mathlib.Core.List.{List, map}
use native.Mathlib.Omega.{arith}
use native.Mathlib.Numerals.{add-one}
use lib.Dec.{eqb, leb}
use lib.ListN.{length, get_or, set, replicate, length-set}
use lib.Seq.{get_or-set_same, get_or-set_other, ext_get_or}
use borrow.Author.Tests.{eqb-true, eqb-false, le-leb, lt-leb}
use Rattle.model.specs.Lists.{from, numbers}
use Rattle.laws.proofs.Bools.{tests, split, same}
use Rattle.laws.proofs.Sums.{get_or-from}

from-same {ℓ} : {A : Type ℓ} (f g : ℕ → A) (k n : ℕ) → ((j : ℕ) → k ≤ j → j < k + n → f j ≡ g j) → map f (from k n) ≡ map g (from k n)
unfolding from
from-same f g k zero h = refl
from-same f g k (suc n) h =
    rw (h k (omega arith) (omega arith), from-same f g (suc k) n (λ j p q. h j (omega arith) (omega arith))) refl

module _ {ℓ} {A : Type ℓ} where
  pub map_same : (f g : ℕ → A) → ((j : ℕ) → 1 ≤ j → j ≤ 64 → f j ≡ g j) → map f (numbers 64) ≡ map g (numbers 64)
  unfolding numbers
  map_same f g h = from-same f g 1 64 (λ j p q. h j p (omega arith))

  pub map-length : (f : ℕ → A) → length (map f (numbers 64)) ≡ 64
  unfolding numbers from
  map-length f = refl

  pub map_at : (f : ℕ → A) (i : ℕ) (d : A) → i < 64 → get_or (map f (numbers 64)) i d ≡ f (suc i)
  unfolding numbers
  map_at f i d h = get_or-from f 1 64 i d h ∙ ap f (omega arith)

  pub map-set : (f g : ℕ → A) (k : ℕ) (x : A) → k < 64 → x ≡ g (suc k) → ((j : ℕ) → (j ≡ suc k → ⊥) → f j ≡ g j)
      → set (map f (numbers 64)) k x ≡ map g (numbers 64)
  map-set f g k x h e o =
      let l = map f (numbers 64) in
      let n : length (set l k x) ≡ 64 = length-set l k x ∙ map-length f in
      ext_get_or x (set l k x) (map g (numbers 64)) (n ∙ sym (map-length g))
      (λ i q.
      split (eqb i k)
      (λ p.
      let z : i ≡ k = eqb-true i k p in
      ap (λ m. get_or (set l k x) m x) z ∙ get_or-set_same l k x x (omega (arith, map-length f)) ∙ e ∙ sym (map_at g k x h)
      ∙ ap (λ m. get_or (map g (numbers 64)) m x) (sym z))
      (λ p.
      let ne : i ≡ k → ⊥ = eqb-false i k p in
      get_or-set_other l k i x x ne ∙ map_at f i x (omega (arith, n)) ∙ o (suc i) (λ z. ne (omega (arith, z)))
      ∙ sym (map_at g i x (omega (arith, n)))))

  unfoldable pub mixed : ℕ → (ℕ → A) → (ℕ → A) → List A
  mixed k f g = map (λ j. cond (leb j k) (f j) (g j)) (numbers 64)

  pub mixed_zero : (f g : ℕ → A) → mixed 0 f g ≡ map g (numbers 64)
  unfolding mixed
  mixed_zero f g = map_same (λ j. cond (leb j 0) (f j) (g j)) g (λ j p q. rw (lt-leb j 0 p) refl)

  pub mixed_all : (f g : ℕ → A) → mixed 64 f g ≡ map f (numbers 64)
  unfolding mixed
  mixed_all f g = map_same (λ j. cond (leb j 64) (f j) (g j)) f (λ j p q. rw (le-leb j 64 q) refl)

  mixed-step : (f g : ℕ → A) (k j : ℕ) → (j ≡ suc k → ⊥) → cond (leb j k) (f j) (g j) ≡ cond (leb j (suc k)) (f j) (g j)
  mixed-step f g k j ne =
      ap (λ b. cond b (f j) (g j))
      (same (λ p. le-leb j (suc k) (omega (tests, p))) (λ p. le-leb j k (omega (tests, p, ne))))

  -- the next place is stored
  pub mixed-set : (f g : ℕ → A) (k : ℕ) (x : A) → k < 64 → x ≡ f (suc k) → set (mixed k f g) k x ≡ mixed (k + 1) f g
  unfolding mixed
  mixed-set f g k x h e =
      rw add-one
      (map-set (λ j. cond (leb j k) (f j) (g j)) (λ j. cond (leb j (suc k)) (f j) (g j)) k x h
      (e ∙ rw (le-leb (suc k) (suc k) (omega arith)) refl)
      (mixed-step f g k))

  -- the next place is left as it is
  pub mixed_keep : (f g : ℕ → A) (k : ℕ) → g (suc k) ≡ f (suc k) → mixed k f g ≡ mixed (k + 1) f g
  unfolding mixed
  mixed_keep f g k e =
      rw add-one
      (map_same (λ j. cond (leb j k) (f j) (g j)) (λ j. cond (leb j (suc k)) (f j) (g j))
      (λ j p q. split (eqb j (suc k))
      (λ z. rw (eqb-true j (suc k) z) (rw (lt-leb (suc k) k (omega arith), le-leb (suc k) (suc k) (omega arith)) e))
      (λ z. mixed-step f g k j (eqb-false j (suc k) z))))

  unfoldable pub up_to : ℕ → (ℕ → A) → A → List A
  up_to k f z = map (λ j. cond (leb j k) (f j) z) (numbers 64)

  pub up_to-length : (k : ℕ) (f : ℕ → A) (z : A) → length (up_to k f z) ≡ 64
  unfolding up_to
  up_to-length k f z = map-length (λ j. cond (leb j k) (f j) z)

  pub up_to_zero : (f : ℕ → A) (z : A) → up_to 0 f z ≡ replicate 64 z
  unfolding up_to mixed numbers from
  up_to_zero f z = mixed_zero f (λ _. z)

  pub up_to_suc : (k : ℕ) (f : ℕ → A) (z : A) → k < 64 → set (up_to k f z) k (f (suc k)) ≡ up_to (suc k) f z
  unfolding up_to mixed
  up_to_suc k f z h = mixed-set f (λ _. z) k (f (suc k)) h refl ∙ ap (λ n. up_to n f z) (add-one k)

  -- the turn of a loop that has filled l up to k
  pub up_to-more : (l : List A) (k : ℕ) (f : ℕ → A) (x z : A) → l ≡ up_to k f z → k < 64 → x ≡ f (suc k) → set l k x ≡ up_to (k + 1) f z
  unfolding up_to mixed
  up_to-more l k f x z a h e = ap (λ m. set m k x) a ∙ mixed-set f (λ _. z) k x h e

  pub up_to-end : (k n : ℕ) (f : ℕ → A) (z : A) → k ≡ min n 64 → up_to k f z ≡ up_to n f z
  unfolding up_to
  up_to-end k n f z e =
      map_same (λ j. cond (leb j k) (f j) z) (λ j. cond (leb j n) (f j) z)
      (λ j p q.
      ap (λ b. cond b (f j) z) (same (λ t. le-leb j n (omega (tests, t, e))) (λ t. le-leb j k (omega (tests, t, e)))))

  pub up_to-places : (n : ℕ) (f : ℕ → A) (z : A) → up_to n f z ≡ map (λ j. cond (leb 1 j && leb j n) (f j) z) (numbers 64)
  unfolding up_to
  up_to-places n f z =
      map_same (λ j. cond (leb j n) (f j) z) (λ j. cond (leb 1 j && leb j n) (f j) z) (λ j p q. rw (le-leb 1 j p) refl)
