-- When one set asks no more than another. `Weaker e w v`: e takes the jobs of w to jobs of v; there each has the same arrival and level, no
-- larger budgets and no earlier deadline, and both orders of w, so renumbered, are what is left of the orders of v.
use Rattle.std.specs.Prelude.{ℕ, ◌≤◌, ◌≡◌, true, map}
use Rattle.model.specs.declared.Level.TheVariants.{Lo, Hi}
use Rattle.model.specs.Sets.{View}
use Rattle.theory.specs.Orders.{subsequence}

pub record Weaker (e : ℕ → ℕ) (w v : View) : Type 0 where
  pub job : (i : ℕ) → w.policy.part i ≡ true → v.policy.part (e i) ≡ true
  pub arrival : (i : ℕ) → w.policy.part i ≡ true → w.policy.arrival i ≡ v.policy.arrival (e i)
  pub level : (i : ℕ) → w.policy.part i ≡ true → w.policy.level i ≡ v.policy.level (e i)
  pub lo : (i : ℕ) → w.policy.part i ≡ true → w.policy.lo i ≤ v.policy.lo (e i)
  pub hi : (i : ℕ) → w.policy.part i ≡ true → w.hi i ≤ v.hi (e i)
  pub deadline : (i : ℕ) → w.policy.part i ≡ true → v.deadline (e i) ≤ w.deadline i
  pub lo_order : subsequence (map e (w.policy.order Lo)) (v.policy.order Lo) ≡ true
  pub hi_order : subsequence (map e (w.policy.order Hi)) (v.policy.order Hi) ≡ true
