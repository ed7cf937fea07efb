-- The words of the statements in Results, over the set struct.
--   Passes s       == checks 2 to 7 find nothing
--   JobOf s j      == j is a job of s: 1 to N;  HiJobOf s j: a HI job of s
--   RunOf s c      == c gives each job of s a whole time, from 1 to its largest budget
--   NoOverrun s c  == in c no HI job runs for longer than its LO budget
--   JudgedFit s    == the verdict on s is fit
--   InTime s c j   == in the run c job j finishes, and by its deadline: then it has had its whole running time
--   Alike s t      == s and t differ only in the room beyond their counts
use Rattle.std.specs.Prelude.{ℕ, ◌≤◌, ◌≡◌, true, List}
use Rattle.model.specs.declared.Level.TheVariants.{Lo, Hi}
use Rattle.model.specs.declared.Set.{Set}
use Rattle.model.specs.declared.Verdict.TheVariants.{Fit}
use Rattle.model.specs.Lists.{cut}
use Rattle.model.specs.Sets.{blank, job_at, order_of, count_of, view}
use Rattle.model.specs.Runs.{time, had_at, finished, outcome_in, is_run}
use Rattle.model.specs.Scenarios.{verdict}
use Rattle.model.specs.Refusals.{good, refusal}

abbrev pub Passes : Set → Type 0
Passes s = refusal (view s) ≡ good

abbrev pub JobOf : Set → ℕ → Type 0
JobOf s j = (1 ≤ j) × (j ≤ s.count)

abbrev pub HiJobOf : Set → ℕ → Type 0
HiJobOf s j = JobOf s j × ((job_at s j).level ≡ Hi)

abbrev pub RunOf : Set → List ℕ → Type 0
RunOf s c = is_run (view s) c ≡ true

abbrev pub NoOverrun : Set → List ℕ → Type 0
NoOverrun s c = (j : ℕ) → HiJobOf s j → time c j ≤ (job_at s j).lo

abbrev pub JudgedFit : Set → Type 0
JudgedFit s = verdict (view s) ≡ Fit

pub record InTime (s : Set) (c : List ℕ) (j : ℕ) : Type 0 where
  pub finish : ℕ
  pub ends : outcome_in (view s) c j ≡ finished finish
  pub by : finish ≤ (job_at s j).deadline
  pub had : had_at (view s).policy c (job_at s j).deadline j ≡ time c j

pub record Alike (s t : Set) : Type 0 where
  pub count : s.count ≡ t.count
  pub jobs : cut blank s.count s.jobs ≡ cut blank t.count t.jobs
  pub lo_count : count_of s Lo ≡ count_of t Lo
  pub lo_order : order_of s Lo ≡ order_of t Lo
  pub hi_count : count_of s Hi ≡ count_of t Hi
  pub hi_order : order_of s Hi ≡ order_of t Hi
