-- Marks, one for each number, say who may stand in an order. Setting the mark of number i + 1 changes what they say of that number alone.
--   no_marks    == false marks say it of the numbers up to 0, of which none may stand
--   mark-more   == marks that say it of the numbers up to i, and the mark of i + 1, say it of those up to i + 1
--   all_marks   == to say it of the numbers up to N is to say it of all
-- Assumes nothing.
use Prim.Native.Nat.{ℕ, zero, suc, ◌+◌, ◌-◌, ◌≤◌, ◌<◌}
use mathlib.Core.Path.{◌≡◌, refl, sym, ◌∙◌, ap}
use mathlib.Core.Bool.{Bool, false, not, ◌&&◌, ◌||◌}
use mathlib.Core.List.{List}
use native.Mathlib.Omega.{arith}
use lib.Dec.{eqb, leb}
use lib.ListN.{length, get_or, set, replicate}
use lib.Seq.{get_or-set_same, get_or-set_other}
use borrow.Author.Tests.{eqb-true, eqb-false, le-leb}
use Rattle.model.specs.declared.Level.{Level}
use Rattle.model.specs.declared.Set.{Set}
use Rattle.model.specs.Lists.{at}
use Rattle.model.specs.Sets.{is_hi, critical, view}
use Rattle.rules.specs.Rules.{may_stand, marked}
use Rattle.laws.proofs.Bools.{tests, split, same, and_l, and_r, and_no_r}
use Rattle.laws.proofs.Places.{at_in}

all_false : (n i : ℕ) → get_or (replicate n false) i false ≡ false
all_false zero i = refl
all_false (suc n) zero = refl
all_false (suc n) (suc i) = all_false n i

none-marked : (n j : ℕ) → marked (replicate n false) j ≡ false
unfolding marked at
none-marked n j = split (eqb j 0) (λ t. rw t) (λ f. rw f (all_false n (j - 1)))

pub no_marks : (s : Set) (m : Level) (n j : ℕ) → marked (replicate n false) j ≡ (leb j 0 && may_stand (view s) m j)
unfolding may_stand view
no_marks s m n j = none-marked n j ∙ split (leb j 0) (λ p. let z : j ≡ 0 = omega (tests, p) in rw z) (λ p. rw p)

mark-same : (ok : List Bool) (i : ℕ) (b : Bool) → i < length ok → marked (set ok i b) (i + 1) ≡ b
unfolding marked
mark-same ok i b h =
    at_in (set ok i b) (i + 1) false (omega arith)
    ∙ ap (λ k. get_or (set ok i b) k false) (let e : i + 1 - 1 ≡ i = omega arith in e)
    ∙ get_or-set_same ok i b false h

mark_other : (ok : List Bool) (i j : ℕ) (b : Bool) → (j ≡ i + 1 → ⊥) → marked (set ok i b) j ≡ marked ok j
unfolding marked at
mark_other ok i j b n =
    split (eqb j 0) (λ e. rw e) (λ e. rw e (get_or-set_other ok i (j - 1) b false (λ z. n (omega (tests, e)))))

pub mark-more : (may : ℕ → Bool) (ok : List Bool) (i : ℕ) (b : Bool) → i < length ok → b ≡ may (i + 1)
    → ((j : ℕ) → marked ok j ≡ (leb j i && may j)) → (j : ℕ) → marked (set ok i b) j ≡ (leb j (i + 1) && may j)
mark-more may ok i b p e h j =
    split (eqb j (i + 1))
    (λ t. rw (eqb-true j (i + 1) t, le-leb (i + 1) (i + 1) (omega arith)) (mark-same ok i b p ∙ e))
    (λ f.
    let n = eqb-false j (i + 1) f in
    mark_other ok i j b n ∙ h j
    ∙ ap (λ t. t && may j)
    (same {a = leb j i} {b = leb j (i + 1)} (λ q. le-leb j (i + 1) (omega (tests, q))) (λ q. le-leb j i (omega (tests, q, n)))))

pub all_marks : (s : Set) (m : Level) (n j : ℕ) → s.count ≤ n → (leb j n && may_stand (view s) m j) ≡ may_stand (view s) m j
unfolding may_stand view
all_marks s m n j h =
    split (may_stand (view s) m j)
    (λ t.
    let part = leb 1 j && leb j s.count in
    let q = and_r (leb 1 j) (leb j s.count) (and_l part (not (is_hi m) || critical (view s).policy j) t) in
    rw (le-leb j n (omega (tests, q))))
    (λ f. and_no_r (leb j n) f ∙ sym f)
