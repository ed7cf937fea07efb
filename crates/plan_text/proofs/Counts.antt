-- The line of a count that is determined.
--   one_digit, two_digits   == the line of a count below 10, and of one from 10 to 99: behind the first digit the last, and the line feed
-- Assumes nothing.
use Prim.Native.Nat.{ℕ, ◌+◌, ◌/◌, ◌%◌, ◌≤◌, ◌<◌}
use mathlib.Core.Path.{◌≡◌, ◌∙◌, ap}
use mathlib.Core.List.{List, [], ◌∷◌, ◌++◌}
use Rattle.std.specs.Prelude.{Result, Ok, Err}
use native.Mathlib.Omega.{arith}
use lib.ListN.{drop}
use Rattle.model.specs.Texts.{digit, decimal}
use Rattle.forms.specs.Forms.{scan, bytes, count, lf}
use Rattle.forms.specs.Forms.Form.{byte}
use Rattle.forms.proofs.Decimals.{decimal_digit, decimal_of}
use Rattle.fields.specs.declared.Stuck.{Stuck}
use Rattle.fields.specs.Cursors.{Steps}
use Rattle.fields.proofs.Given.{stuck-before, goes_on}

-- a count is written with one digit or with two
decimal_two : (n : ℕ) → 10 ≤ n → n < 100 → decimal n ≡ digit (n / 10) ∷ digit (n % 10) ∷ []
decimal_two n h q = decimal_of n h ∙ ap (λ l. l ++ (digit (n % 10) ∷ [])) (decimal_digit (n / 10) (omega arith))

module _ (t : List ℕ) (at n : ℕ) where
  pub one_digit : (r : Result ℕ Stuck) → n < 10 → Steps t at (bytes ((48 + n % 10) ∷ lf ∷ [])) r → Steps t at (count n) r
  unfolding count digit
  one_digit r h s =
      let e : 48 + n % 10 ≡ 48 + n = omega arith in
      record {
        goes = λ f. ap (λ l. scan (bytes (l ++ (lf ∷ [])) f) (drop at t)) (decimal_digit n h) ∙ (rw e at (s.goes f));
        within = s.within;
      }

  module _ (h : 10 ≤ n) (q : n < 100) (a : Result ℕ Stuck) (s : Steps t at (byte (48 + n / 10)) a) where
    two_digits : (r : Result ℕ Stuck) → Steps t at (λ f. byte (48 + n / 10) (bytes ((48 + n % 10) ∷ lf ∷ []) f)) r → Steps t at (count n) r
    unfolding count bytes digit
    two_digits r s =
        record {
          goes = λ f. ap (λ l. scan (bytes (l ++ (lf ∷ [])) f) (drop at t)) (decimal_two n h q) ∙ s.goes f;
          within = s.within;
        }

    pub stuck_digit : (e : Stuck) → a ≡ Err e → Steps t at (count n) (Err e)
    stuck_digit e p = two_digits _ (stuck-before _ _ _ (bytes ((48 + n % 10) ∷ lf ∷ [])) _ s _ p)

    pub last_digit : (p : ℕ) (r : Result ℕ Stuck) → a ≡ Ok p → Steps t p (bytes ((48 + n % 10) ∷ lf ∷ [])) r → Steps t at (count n) r
    last_digit p r e z = two_digits _ (goes_on _ _ _ (bytes ((48 + n % 10) ∷ lf ∷ [])) _ s _ _ e z)
