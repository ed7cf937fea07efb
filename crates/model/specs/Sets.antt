-- Document 01, "The set".
--   is_hi m       == the level, or the mode, is HI
--   job, set      == a job and a set written down
--   Policy        == what a run looks at: never a HI budget, a deadline or the span
--   View          == a set as jobs 1 to N and two lists
--   view s        == the view of the struct s, cut at its counts
--   members p     == the jobs that take part
--   critical p j  == job j is a HI job
--   span v        == the span
use Rattle.std.specs.Prelude.{ℕ, ◌+◌, ◌-◌, Bool, true, false, ◌&&◌, List, ◌++◌, leb, length, replicate}
use Rattle.model.specs.declared.Level.{Level}
use Rattle.model.specs.declared.Level.TheVariants.{Lo, Hi}
use Rattle.model.specs.declared.Job.{Job}
use Rattle.model.specs.declared.Set.{Set}
use Rattle.model.specs.Lists.{at, numbers, only, total, largest, cut}

unfoldable pub is_hi : Level → Bool
is_hi Lo = false
is_hi Hi = true

-- "A job has an arrival A and a deadline D .., a level, a LO budget and a HI budget."
unfoldable pub job : ℕ → ℕ → Level → ℕ → ℕ → Job
job a d l lo hi =
    record {
      arrival = a;
      deadline = d;
      level = l;
      lo = lo;
      hi = hi;
    }

-- "Room beyond a count is no part of the set: .. the reader leaves 0 there (level LO)."
unfoldable pub blank : Job
blank = job 0 0 Lo 0 0

-- The set of these jobs, numbered from 1, and these orders.
unfoldable pub set : List Job → List ℕ → List ℕ → Set
set js lo hi =
    record {
      jobs = js ++ replicate (64 - length js) blank;
      count = length js;
      lo = record { entries = lo ++ replicate (64 - length lo) 0; count = length lo };
      hi = record { entries = hi ++ replicate (64 - length hi) 0; count = length hi };
    }

-- `part j`: job j takes part. `order m`: the order of mode m.
pub record Policy : Type 0 where
  pub part : ℕ → Bool
  pub arrival : ℕ → ℕ
  pub level : ℕ → Level
  pub lo : ℕ → ℕ
  pub order : Level → List ℕ

-- `count`: N as given. `counts m`: the count of the order of mode m, as given.
pub record View : Type 0 where
  pub policy : Policy
  pub count : ℕ
  pub deadline : ℕ → ℕ
  pub hi : ℕ → ℕ
  pub counts : Level → ℕ

-- "A set has N jobs, numbered 1 to N. .. A LO order names every job once, highest priority first; a HI order names every HI job once."
unfoldable pub job_at : Set → ℕ → Job
job_at s j = at (cut blank s.count s.jobs) j blank

unfoldable pub order_of : Set → Level → List ℕ
order_of s Lo = cut 0 s.lo.count s.lo.entries
order_of s Hi = cut 0 s.hi.count s.hi.entries

unfoldable pub count_of : Set → Level → ℕ
count_of s Lo = s.lo.count
count_of s Hi = s.hi.count

unfoldable pub view : Set → View
view s =
    record {
      policy =
          record {
            part = λ j. leb 1 j && leb j s.count;
            arrival = λ j. (job_at s j).arrival;
            level = λ j. (job_at s j).level;
            lo = λ j. (job_at s j).lo;
            order = order_of s;
          };
      count = s.count;
      deadline = λ j. (job_at s j).deadline;
      hi = λ j. (job_at s j).hi;
      counts = count_of s;
    }

unfoldable pub members : Policy → List ℕ
members p = only p.part (numbers 64)

unfoldable pub critical : Policy → ℕ → Bool
critical p j = is_hi (p.level j)

-- "The span is the largest arrival plus the sum of all HI budgets."
unfoldable pub span : View → ℕ
span v = largest v.policy.arrival (members v.policy) + total v.hi (members v.policy)
