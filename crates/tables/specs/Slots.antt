-- The slots of the HI table over lent lists.
--   enabled_in, chosen   == rules (a), (b), (c) for a job, by the lists that hold its numbers; the first of an order that is enabled, 0 for none
--   counted l j          == one slot more for job j; nothing for 0
use Rattle.std.specs.Prelude.{ℕ, Bool, cond, List, eqb}
use Rattle.model.specs.Lists.{at, first}
use Rattle.model.specs.Runs.{bump}
use Rattle.measures.specs.Measures.{enabled_by}

unfoldable pub enabled_in : List ℕ → List ℕ → List ℕ → List ℕ → ℕ → ℕ → Bool
enabled_in had lo_had lo hi slot j = enabled_by (at had j 0) (at lo_had j 0) (at lo j 0) (at hi j 0) (eqb slot j)

unfoldable pub chosen : List ℕ → List ℕ → List ℕ → List ℕ → List ℕ → ℕ → ℕ
chosen order had lo_had lo hi slot = first (enabled_in had lo_had lo hi slot) order

unfoldable pub counted : List ℕ → ℕ → List ℕ
counted l j = cond (eqb j 0) l (bump l j)
