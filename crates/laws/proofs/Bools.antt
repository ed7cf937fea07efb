-- Cases on a test that keep the equation, and what a joined test says.
--   split b f g        == by cases on the test b
--   and_l, and_r, and_i, and-no     == a && b is true; it is not
--   or_l, or_r, or_cases, or-no     == a || b is true; it is false
--   tests              == omega's rules for the tests of numbers
-- Assumes nothing.
use mathlib.Core.Path.{◌≡◌, refl, sym, ◌∙◌}
use mathlib.Core.Bool.{Bool, true, false, not, ◌&&◌, ◌||◌, true≢false}
use mathlib.Core.Logic.{◌⊎◌, inl, inr}
use native.Mathlib.Omega.{arith}
use borrow.Author.Tests.{ltb-true, ltb-false, leb-true, leb-false, eqb-true, eqb-false}

pub ruleset tests = (arith, ltb-true, ltb-false, leb-true, leb-false, eqb-true, eqb-false)

pub split {ℓ} : {P : Type ℓ} (b : Bool) → (b ≡ true → P) → (b ≡ false → P) → P
split true f g = f refl
split false f g = g refl

pub clash {ℓ} : {P : Type ℓ} {b : Bool} → b ≡ true → b ≡ false → P
clash p q = absurd (true≢false (sym p ∙ q))

pub not_i : {b : Bool} → b ≡ false → not b ≡ true
not_i {b} e = cc

pub not_i_false : {b : Bool} → b ≡ true → not b ≡ false
not_i_false {b} e = cc

pub and_l : (a b : Bool) → (a && b) ≡ true → a ≡ true
and_l true b h = refl
and_l false b h = h

pub and_r : (a b : Bool) → (a && b) ≡ true → b ≡ true
and_r true b h = h
and_r false b h = absurd (true≢false (sym h))

pub and_i : {a b : Bool} → a ≡ true → b ≡ true → (a && b) ≡ true
and_i {a} {b} p q = cc

pub and_no_l : {a : Bool} (b : Bool) → a ≡ false → (a && b) ≡ false
and_no_l {a} b p = cc

pub and_no_r : (a : Bool) {b : Bool} → b ≡ false → (a && b) ≡ false
and_no_r true p = p
and_no_r false p = refl

pub or_l : {a : Bool} (b : Bool) → a ≡ true → (a || b) ≡ true
or_l {a} b p = cc

pub or_r : (a : Bool) {b : Bool} → b ≡ true → (a || b) ≡ true
or_r true p = refl
or_r false p = p

pub or_cases : (a b : Bool) → (a || b) ≡ true → (a ≡ true) ⊎ (b ≡ true)
or_cases true b h = inl refl
or_cases false b h = inr h

pub or_no_l : (a b : Bool) → (a || b) ≡ false → a ≡ false
or_no_l true b h = h
or_no_l false b h = refl

pub or_no_r : (a b : Bool) → (a || b) ≡ false → b ≡ false
or_no_r true b h = absurd (true≢false h)
or_no_r false b h = h

pub or_i_no : {a b : Bool} → a ≡ false → b ≡ false → (a || b) ≡ false
or_i_no {a} {b} p q = cc

-- two tests that each follow from the other are equal
pub same : {a b : Bool} → (a ≡ true → b ≡ true) → (b ≡ true → a ≡ true) → a ≡ b
same {a} {b} f g = split a (λ p. p ∙ sym (f p)) (λ n. split b (λ q. g q ∙ sym q) (λ m. n ∙ sym m))
