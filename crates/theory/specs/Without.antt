-- A set with some jobs left out and the numbers closed up, where `keep` says which jobs stay.
--   kept keep s          == the jobs of s that stay, by the numbers that they have in s, rising
--   old_number keep s i  == the number in s of the i-th job that stays
--   new_number keep j    == the number of job j among those that stay: how many of 1 to j stay
--   closed keep l        == the order l with those that go left out, and the others by their new numbers
--   without keep s       == the set s with only the jobs that stay
use Rattle.std.specs.Prelude.{ℕ, Bool, List, map, length}
use Rattle.model.specs.declared.Level.TheVariants.{Lo, Hi}
use Rattle.model.specs.declared.Set.{Set}
use Rattle.model.specs.Lists.{at, numbers, only}
use Rattle.model.specs.Sets.{set, job_at, order_of}

unfoldable pub kept : (ℕ → Bool) → Set → List ℕ
kept keep s = only keep (numbers s.count)

unfoldable pub old_number : (ℕ → Bool) → Set → ℕ → ℕ
old_number keep s i = at (kept keep s) i 0

unfoldable pub new_number : (ℕ → Bool) → ℕ → ℕ
new_number keep j = length (only keep (numbers j))

unfoldable pub closed : (ℕ → Bool) → List ℕ → List ℕ
closed keep l = map (new_number keep) (only keep l)

unfoldable pub without : (ℕ → Bool) → Set → Set
without keep s = set (map (job_at s) (kept keep s)) (closed keep (order_of s Lo)) (closed keep (order_of s Hi))
