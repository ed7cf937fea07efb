-- Filling lent room from its start, an entry a turn.
--   filled f n e      == the room e, whose first n entries are f 0, f 1, ..
--   filled_none, filled_next   == nothing is filled yet; one entry more
--   made_length       == how much is filled
-- Assumes nothing.
use Prim.Native.Nat.{ℕ, zero, suc, ◌+◌, ◌<◌}
use mathlib.Core.Path.{◌≡◌, refl, ◌∙◌, ap}
use mathlib.Core.List.{List, [], ◌∷◌, ◌++◌, map}
use native.Mathlib.Omega.{arith}
use native.Mathlib.Numerals.{add-one}
use lib.ListN.{length, drop, set}
use Rattle.model.specs.Lists.{from}

abbrev pub filled {ℓ} : {A : Type ℓ} → (ℕ → A) → ℕ → List A → List A
filled f n e = map f (from 0 n) ++ drop n e

pub filled_none {ℓ} : {A : Type ℓ} (f : ℕ → A) (e : List A) → e ≡ filled f 0 e
unfolding from
filled_none f e = refl

one_more {ℓ} : {A : Type ℓ} (f : ℕ → A) (k n : ℕ) (e : List A) → n < length e
    → set (map f (from k n) ++ drop n e) n (f (k + n)) ≡ map f (from k (suc n)) ++ drop (suc n) e
unfolding from
one_more f k n [] h = absurd (omega arith)
one_more f k zero (x ∷ e) h = ap (λ i. f i ∷ e) (omega arith)
one_more f k (suc n) (x ∷ e) h =
    let e' : k + suc n ≡ suc k + n = omega arith in
    rw e' (ap (λ l. f k ∷ l) (one_more f (suc k) n e (omega arith)))

pub filled_next {ℓ} : {A : Type ℓ} (f : ℕ → A) (n : ℕ) (e l : List A) (x : A) → n < length e → l ≡ filled f n e → x ≡ f n
    → set l n x ≡ filled f (n + 1) e
filled_next f n e l x h p q =
    rw (p, q, add-one) (ap (λ i. set (filled f n e) n (f i)) (omega arith) ∙ one_more f 0 n e h)

pub made_length {ℓ} : {A : Type ℓ} (f : ℕ → A) (k n : ℕ) → length (map f (from k n)) ≡ n
unfolding from
made_length f k zero = refl
made_length f k (suc n) = ap suc (made_length f (suc k) n)
