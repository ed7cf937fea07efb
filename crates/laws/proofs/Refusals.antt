-- What the number of a refusal says, where in a list of checks the first refusal is, and refusal 8, of the room lent.
--   number-good, number_bad   == a refusal is good where its number is 0, and is not where it is another
--   unless-good, unless_bad   == what an answer is then
--   first-here, first-later   == the first refusal, where the head refuses, and where it does not
--   short-here, short_there   == 8 applies where the first, or the second, table is too short
--   room_enough               == it does not where both suffice;  room-good: only then
-- Assumes nothing.
use Prim.Native.Nat.{ℕ, ◌≤◌, ◌<◌}
use mathlib.Core.Path.{◌≡◌, refl, sym, ◌∙◌, ap}
use mathlib.Core.Bool.{Bool, true, false, ◌||◌}
use mathlib.Core.List.{List, ◌∷◌}
use native.Mathlib.Omega.{arith}
use lib.Dec.{ltb}
use borrow.Author.Tests.{lt-ltb, le-ltb, eq-eqb, ne_eqb}
use Rattle.model.specs.declared.Refusal.{Refusal}
use Rattle.model.specs.Sets.{View, span}
use Rattle.model.specs.Refusals.{good, is_good, applies, first_of, check_room}
use Rattle.model.specs.Answers.{unless}
use Rattle.laws.proofs.Bools.{tests, or_l, or_r, or_no_l, or_no_r, or_i_no}
use Rattle.laws.proofs.Checks.{applies-not}

-- r: an answer that is promised to be q
module _ (q r : Refusal) (e : r ≡ q) where
  pub number-good : r.number ≡ 0 → is_good q ≡ true
  unfolding is_good
  number-good z = eq-eqb q.number 0 (ap (λ (x : Refusal). x.number) (sym e) ∙ z)

  pub number_bad : (r.number ≡ 0 → ⊥) → is_good q ≡ false
  unfolding is_good
  number_bad n = ne_eqb q.number 0 (λ z. n (ap (λ (x : Refusal). x.number) e ∙ z))

  pub unless-good {ℓ} : {A : Type ℓ} (refused found : A) → r.number ≡ 0 → found ≡ unless q refused found
  unfolding unless
  unless-good refused found z = sym (rw (number-good z) refl)

  pub unless_bad {ℓ} : {A : Type ℓ} (refused found : A) → (r.number ≡ 0 → ⊥) → refused ≡ unless q refused found
  unfolding unless
  unless_bad refused found n = sym (rw (number_bad n) refl)

module _ (r : Refusal) (l : List Refusal) where
  pub first-here : is_good r ≡ false → first_of (r ∷ l) ≡ r
  unfolding first_of
  first-here e = rw e refl

  pub first-later : is_good r ≡ true → first_of (r ∷ l) ≡ first_of l
  unfolding first_of
  first-later e = rw e refl

module _ (v : View) (m n : ℕ) where
  room_is : (b : Bool) → (ltb m (span v) || ltb n (span v)) ≡ b → check_room v m n ≡ applies 8 (span v) b
  unfolding check_room
  room_is b e = rw e refl

  short : (ltb m (span v) || ltb n (span v)) ≡ true → check_room v m n ≡ record { number = 8; place = span v }
  unfolding applies
  short e = rw (room_is true e) refl

  pub short-here : m < span v → check_room v m n ≡ record { number = 8; place = span v }
  short-here h = short (or_l (ltb n (span v)) (lt-ltb m (span v) h))

  pub short_there : n < span v → check_room v m n ≡ record { number = 8; place = span v }
  short_there h = short (or_r (ltb m (span v)) (lt-ltb n (span v) h))

  pub room_enough : span v ≤ m → span v ≤ n → check_room v m n ≡ good
  unfolding applies
  room_enough a b = rw (room_is false (or_i_no (le-ltb m (span v) a) (le-ltb n (span v) b))) refl

  pub room-good : is_good (check_room v m n) ≡ true → (span v ≤ m) × (span v ≤ n)
  unfolding check_room
  room-good h =
      let e = applies-not 8 (span v) (ltb m (span v) || ltb n (span v)) h (omega arith) in (
        omega (tests, or_no_l (ltb m (span v)) (ltb n (span v)) e),
        omega (tests, or_no_r (ltb m (span v)) (ltb n (span v)) e),
      )
