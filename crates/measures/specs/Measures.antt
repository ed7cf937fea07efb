-- A finish against a deadline that the run requires, and the slots of a HI job against its budgets.
--   missed_by h d f x        == a job, HI if h, with deadline d misses it where it finishes at f in a run with switch x
--   enabled_by h l lo hi x   == rules (a), (b), (c) for a job that has had h slots in the HI table and l in the LO table, which runs it if x
use Rattle.std.specs.Prelude.{ℕ, Bool, ◌&&◌, ◌||◌, eqb, ltb, None as Never, Some as At, Option}

-- In a run with a switch "every HI job" is required to be in time, and in one without "every job".
unfoldable pub missed_by : Bool → ℕ → ℕ → Option ℕ → Bool
missed_by critical deadline finish Never = ltb deadline finish
missed_by critical deadline finish (At t) = critical && ltb deadline finish

unfoldable pub enabled_by : ℕ → ℕ → ℕ → ℕ → Bool → Bool
enabled_by h l lo hi runs = ltb h hi && (eqb l lo || (ltb h l || runs))
