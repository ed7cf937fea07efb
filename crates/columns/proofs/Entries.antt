-- What the view of columns says of job i + 1 stands at place i of each.
--   part_is, part_e    == who takes part
--   critical_is, deadline_is, lo_is, hi_is   == the level, the deadline and the budgets
--   place_is           == so it is in a list that the view fills
-- Assumes nothing.
use Prim.Native.Nat.{ℕ, suc, ◌≤◌, ◌<◌}
use mathlib.Core.Path.{◌≡◌, refl, ◌∙◌}
use mathlib.Core.Bool.{true, false, cond}
use native.Mathlib.Omega.{arith}
use lib.Dec.{leb}
use lib.ListN.{get_or}
use borrow.Author.Tests.{le-leb}
use Rattle.model.specs.Lists.{at}
use Rattle.model.specs.Sets.{critical}
use Rattle.model.specs.Scenarios.{places}
use Rattle.laws.proofs.Bools.{tests, and_i, and_l, and_r}
use Rattle.laws.proofs.Places.{at_suc, cond-hi}
use Rattle.laws.proofs.Fill.{map_at}
use Rattle.columns.specs.declared.Columns.{Columns}
use Rattle.columns.specs.Columns.{view_of, listed, Testable}

module _ (k : Columns) where
  pub part_is : (i : ℕ) → i < k.n → (view_of k).policy.part (suc i) ≡ true
  unfolding view_of listed
  part_is i q = and_i (le-leb 1 (suc i) (omega arith)) (le-leb (suc i) k.n (omega arith))

  pub part_e : (j : ℕ) → (view_of k).policy.part j ≡ true → (1 ≤ j) × (j ≤ k.n)
  unfolding view_of listed
  part_e j a = (omega (tests, and_l (leb 1 j) (leb j k.n) a), omega (tests, and_r (leb 1 j) (leb j k.n) a))

  pub critical_is : (i : ℕ) → critical (view_of k).policy (suc i) ≡ get_or k.critical i false
  unfolding view_of listed critical
  critical_is i = cond-hi (at k.critical (suc i) false) ∙ at_suc k.critical i false

  pub deadline_is : (i : ℕ) → (view_of k).deadline (suc i) ≡ get_or k.deadlines i 0
  unfolding view_of
  deadline_is i = at_suc k.deadlines i 0

  pub lo_is : (i : ℕ) → (view_of k).policy.lo (suc i) ≡ get_or k.lo i 0
  unfolding view_of listed
  lo_is i = at_suc k.lo i 0

  pub hi_is : (i : ℕ) → (view_of k).hi (suc i) ≡ get_or k.hi i 0
  unfolding view_of
  hi_is i = at_suc k.hi i 0

  pub place_is : Testable k → (f : ℕ → ℕ) (i : ℕ) → i < k.n → get_or (places (view_of k) f) i 0 ≡ f (suc i)
  unfolding places
  place_is h f i q =
      map_at (λ j. cond ((view_of k).policy.part j) (f j) 0) i 0 (omega (arith, h.full.n)) ∙ rw (part_is i q) refl
