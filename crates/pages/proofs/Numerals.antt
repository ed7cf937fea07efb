-- Laws on numerals.
--   written        == what the kit writes of a number of 64 bits is what document 01 says
--   signed_minus   == a margin, by the two numbers that it comes from
--   signed_late, signed_timely   == a margin that is negative, and one that is not
-- Assumes nothing.
use Rattle.std.specs.Fmt as spec
use Rattle.std.proofs.lemmas.Fmt.{decimal_by_steps}
use Prim.Native.Nat.{ℕ, suc, ◌+◌, ◌-◌, ◌%◌, ◌^◌, ◌≤◌, ◌<◌}
use mathlib.Core.Path.{◌≡◌, refl, sym, ◌∙◌, ap}
use mathlib.Core.Bool.{cond}
use mathlib.Core.List.{[], ◌∷◌, ◌++◌}
use lib.Dec.{ltb}
use lib.IntN.{pos, ◌-ℤ◌}
use borrow.Author.Tests.{lt-ltb, le-ltb}
use Rattle.model.specs.Texts.{digit, decimal}
use Rattle.model.specs.Printed.{signed}
use Rattle.laws.proofs.Bools.{tests, split}
use Rattle.laws.proofs.Differences.{minus}
use Rattle.forms.proofs.Decimals.{decimal_digit, decimal_of}

pub written : (n : ℕ) → n < 2 ^ 64 → spec.decimal n ≡ decimal n
unfolding digit
written =
    decimal_by_steps (λ n l. l ≡ decimal n)
    (λ n h. sym (decimal_digit n h))
    (λ n l h e. ap (λ m. m ++ ((48 + n % 10) ∷ [])) e ∙ sym (decimal_of n h))

pub signed_minus : (d w : ℕ) → signed (pos d -ℤ pos w) ≡ cond (ltb d w) (45 ∷ decimal (w - d)) (decimal (d - w))
unfolding signed
signed_minus d w =
    ap signed (minus d w)
    ∙ split (ltb d w) (λ h. rw h (ap (λ n. 45 ∷ decimal n) (let e : suc (w - suc d) ≡ w - d = omega (tests, h) in e))) (λ h. rw h refl)

module _ (d w : ℕ) where
  pub signed_late : d < w → signed (pos d -ℤ pos w) ≡ 45 ∷ decimal (w - d)
  signed_late h = signed_minus d w ∙ rw (lt-ltb d w h) refl

  pub signed_timely : w ≤ d → signed (pos d -ℤ pos w) ≡ decimal (d - w)
  signed_timely h = signed_minus d w ∙ rw (le-ltb d w h) refl
