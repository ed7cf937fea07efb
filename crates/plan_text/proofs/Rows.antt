-- A line of numbers, place by place.
--   row_from         == the form of what is left of a line from place i on
--   row_whole, row_first, row_none   == it is the line's own form at first; it begins with the number at place i; nothing is left at the end
-- Assumes nothing.
use Prim.Native.Nat.{ℕ, zero, suc, ◌+◌, ◌-◌, ◌<◌}
use mathlib.Core.Path.{◌≡◌, refl, ◌∙◌, ap}
use mathlib.Core.Bool.{cond}
use mathlib.Core.List.{List, [], ◌∷◌, ◌++◌}
use native.Mathlib.Omega.{arith}
use borrow.Author.Tests.{ltb-true, ltb-false, lt-ltb, le-ltb}
use lib.Dec.{ltb}
use Rattle.std.specs.Prelude.{Option}
use Rattle.laws.proofs.Bools.{split}
use Rattle.forms.specs.Forms.{Form, row, space, lf}
use Rattle.forms.specs.Forms.Form.{field}
use Rattle.plan_text.specs.Parts.{limit_at, limits_from, limits, behind_at}

abbrev pub row_from : Option ℕ → ℕ → ℕ → List ℕ → (List ℕ → Form) → Form
row_from level n i l k = row (limits_from level i (n - i)) l k

-- the first of a line's numbers, with as many as d behind it
first : (level : Option ℕ) (i d : ℕ) (l : List ℕ) (k : List ℕ → Form) →
    row (limits_from level i (suc d)) l k
    ≡ field 0 (limit_at level i) (cond (ltb 0 d) space lf) (λ x. row (limits_from level (i + 1) d) (l ++ (x ∷ [])) k)
unfolding row limits_from
first level i zero l k = refl
first level i (suc d) l k = rw (lt-ltb 0 (suc d) (omega arith))

behind : (n i : ℕ) → i < n → behind_at n i ≡ cond (ltb 0 (n - (i + 1))) space lf
unfolding behind_at
behind n i h =
    split (ltb (i + 1) n)
    (λ t. rw (t, lt-ltb 0 (n - (i + 1)) (omega (arith, ltb-true (i + 1) n t))))
    (λ f. rw (f, le-ltb 0 (n - (i + 1)) (omega (arith, ltb-false (i + 1) n f))))

module _ (level : Option ℕ) (n : ℕ) where
  pub row_whole : (k : List ℕ → Form) → row (limits level n) [] k ≡ row_from level n 0 [] k
  unfolding limits
  row_whole k = let e : n ≡ n - 0 = omega arith in ap (λ j. row (limits_from level 0 j) [] k) e

  pub row_none : (l : List ℕ) (k : List ℕ → Form) → row_from level n n l k ≡ k l
  unfolding row limits_from
  row_none l k = let e : n - n ≡ 0 = omega arith in ap (λ j. row (limits_from level n j) l k) e

  pub row_first : (i m b : ℕ) → i < n → m ≡ limit_at level i → b ≡ behind_at n i → (l : List ℕ) (k : List ℕ → Form)
      → row_from level n i l k ≡ field 0 m b (λ x. row_from level n (i + 1) (l ++ (x ∷ [])) k)
  row_first i m b h em eb l k =
      let e : n - i ≡ suc (n - (i + 1)) = omega arith in
      ap (λ j. row (limits_from level i j) l k) e ∙ first level i (n - (i + 1)) l k ∙ rw (em, eb, behind n i h)
