-- Numbers in decimal.
--   spelled_same     == above the number, the bound of the recursion makes no difference
--   decimal_digit    == a number below 10 is one digit
--   decimal-longer   == n * 10 + d is n with the digit d behind it
--   decimal_of       == a number from 10 up is its tenth with a digit behind it
--   decimal_most     == at most 65,535 has at most five digits;  decimal-count: at most 99 has at most two;  decimal_one: below 10 has one
-- Assumes nothing.
use Prim.Native.Nat.{ℕ, zero, suc, ◌+◌, ◌*◌, ◌/◌, ◌%◌, ◌≤◌, ◌<◌}
use mathlib.Core.Path.{◌≡◌, refl, ◌∙◌, ap}
use mathlib.Core.List.{[], ◌∷◌, ◌++◌}
use native.Mathlib.Omega.{arith}
use lib.Dec.{ltb}
use lib.ListN.{length, length-append}
use borrow.Author.Tests.{lt-ltb, le-ltb}
use Rattle.model.specs.Texts.{digit, spelled, decimal}
use Rattle.laws.proofs.Bools.{tests, split}

pub spelled_same : (j k n : ℕ) → n < j → n < k → spelled j n ≡ spelled k n
unfolding spelled
spelled_same zero k n p q = absurd (omega arith)
spelled_same (suc j) zero n p q = absurd (omega arith)
spelled_same (suc j) (suc k) n p q =
    split (ltb n 10)
    (λ t. rw t refl)
    (λ f. rw f (ap (λ l. l ++ (digit (n % 10) ∷ [])) (spelled_same j k (n / 10) (omega (tests, f)) (omega (tests, f)))))

pub decimal_digit : (d : ℕ) → d < 10 → decimal d ≡ digit d ∷ []
unfolding decimal spelled
decimal_digit d h = rw (lt-ltb d 10 h) refl

pub decimal_of : (n : ℕ) → 10 ≤ n → decimal n ≡ decimal (n / 10) ++ (digit (n % 10) ∷ [])
unfolding decimal spelled
decimal_of n h =
    rw (le-ltb n 10 h)
    (ap (λ l. l ++ (digit (n % 10) ∷ [])) (spelled_same n (suc (n / 10)) (n / 10) (omega arith) (omega arith)))

pub decimal-longer : (n d : ℕ) → 1 ≤ n → d < 10 → decimal (n * 10 + d) ≡ decimal n ++ (digit d ∷ [])
decimal-longer n d p q =
    let a : (n * 10 + d) / 10 ≡ n = omega arith in
    let b : (n * 10 + d) % 10 ≡ d = omega arith in
    decimal_of (n * 10 + d) (omega arith) ∙ ap (λ x. decimal x ++ (digit ((n * 10 + d) % 10) ∷ [])) a
    ∙ ap (λ x. decimal n ++ (digit x ∷ [])) b

-- how long it is ---------------------------------------------------------------------------------------------------------------------

decimal-more : (m k : ℕ) → 1 ≤ k → ((n : ℕ) → n < m → length (decimal n) ≤ k) → (n : ℕ) → n < m * 10 → length (decimal n) ≤ suc k
decimal-more m k z h n q =
    split (ltb n 10)
    (λ t. omega (arith, ap length (decimal_digit n (omega (tests, t)))))
    (λ f.
    omega (
      arith,
      ap length (decimal_of n (omega (tests, f))),
      length-append (decimal (n / 10)) (digit (n % 10) ∷ []),
      h (n / 10) (omega arith),
    ))

pub decimal_one : (n : ℕ) → n < 10 → length (decimal n) ≤ 1
decimal_one n h = omega (arith, ap length (decimal_digit n h))

pub decimal-count : (n : ℕ) → n ≤ 99 → length (decimal n) ≤ 2
decimal-count n h = decimal-more 10 1 (omega arith) decimal_one n (omega arith)

pub decimal_most : (n : ℕ) → n ≤ 65535 → length (decimal n) ≤ 5
decimal_most n h =
    decimal-more 10000 4 (omega arith)
    (decimal-more 1000 3 (omega arith)
    (decimal-more 100 2 (omega arith) (decimal-more 10 1 (omega arith) decimal_one)))
    n (omega arith)
