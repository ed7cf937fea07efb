-- A set that asks less of the processor with the same jobs. `Eased s' s`: s' is s with budgets lowered and deadlines moved later, or kept;
-- it has the same number of jobs, the same two orders, and in each job the same arrival and level. `EasedJob k j`: so for one job.
use Rattle.std.specs.Prelude.{ℕ, ◌≤◌, ◌≡◌}
use Rattle.model.specs.declared.Level.TheVariants.{Lo, Hi}
use Rattle.model.specs.declared.Job.{Job}
use Rattle.model.specs.declared.Set.{Set}
use Rattle.model.specs.Sets.{job_at, order_of}

pub record EasedJob (k j : Job) : Type 0 where
  pub arrival : k.arrival ≡ j.arrival
  pub level : k.level ≡ j.level
  pub lo : k.lo ≤ j.lo
  pub hi : k.hi ≤ j.hi
  pub deadline : j.deadline ≤ k.deadline

pub record Eased (s' s : Set) : Type 0 where
  pub count : s'.count ≡ s.count
  pub lo_order : order_of s' Lo ≡ order_of s Lo
  pub hi_order : order_of s' Hi ≡ order_of s Hi
  pub job : (j : ℕ) → 1 ≤ j → j ≤ s.count → EasedJob (job_at s' j) (job_at s j)
