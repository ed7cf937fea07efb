-- What the proofs need of a set, as facts about its view. A set that passes checks 2 to 7 is sound (Checks).
--   Ordered p  == the orders name exactly those who take part, once each, the HI order the HI jobs
--   Sound v    == ordered, and the budget rule, deadlines after arrivals and a span of at most 4,096
-- Assumes nothing.
use Prim.Native.Nat.{ℕ, ◌≤◌, ◌<◌}
use mathlib.Core.Path.{◌≡◌}
use mathlib.Core.Bool.{true, false}
use Rattle.model.specs.declared.Level.TheVariants.{Lo, Hi}
use Rattle.model.specs.Lists.{mem}
use Rattle.model.specs.Sets.{Policy, View, critical, span}
use Rattle.laws.proofs.Lists.{distinct}
use Rattle.laws.proofs.Places.{Placed}

pub record Ordered (p : Policy) : Type 0 where
  pub room : Placed p
  pub lo_names : (j : ℕ) → p.part j ≡ true → mem j (p.order Lo) ≡ true
  pub lo_only : (j : ℕ) → mem j (p.order Lo) ≡ true → p.part j ≡ true
  pub lo_once : distinct (p.order Lo) ≡ true
  pub hi_names : (j : ℕ) → p.part j ≡ true → critical p j ≡ true → mem j (p.order Hi) ≡ true
  pub hi_only : (j : ℕ) → mem j (p.order Hi) ≡ true → (p.part j ≡ true) × (critical p j ≡ true)
  pub hi_once : distinct (p.order Hi) ≡ true

pub record Sound (v : View) : Type 0 where
  pub ordered : Ordered v.policy
  pub timely : (j : ℕ) → v.policy.part j ≡ true → v.policy.arrival j < v.deadline j
  pub some : (j : ℕ) → v.policy.part j ≡ true → 1 ≤ v.policy.lo j
  pub equal : (j : ℕ) → v.policy.part j ≡ true → critical v.policy j ≡ false → v.policy.lo j ≡ v.hi j
  pub above : (j : ℕ) → v.policy.part j ≡ true → critical v.policy j ≡ true → v.policy.lo j < v.hi j
  pub bounded : span v ≤ 4096
