-- Worst finishes and margins as the code makes them.
--   worse_in v w f j   == job j's worst finish, where it was w before a HI scenario with the finishes f: for a LO job it stays
--   raised_in v w f    == the worst finishes w, raised by the run with the finishes f
--   margins_in v       == each job's margin, 0 at every other of the 64 places
use Rattle.std.specs.Prelude.{ℕ, max, cond, List, map, ℤ, pos}
use Rattle.model.specs.Lists.{at, numbers}
use Rattle.model.specs.Sets.{View, critical}
use Rattle.model.specs.Scenarios.{margin}

unfoldable pub worse_in : View → List ℕ → List ℕ → ℕ → ℕ
worse_in v w f j = cond (critical v.policy j) (max (at w j 0) (at f j 0)) (at w j 0)

unfoldable pub raised_in : View → List ℕ → List ℕ → List ℕ
raised_in v w f = map (λ j. cond (v.policy.part j) (worse_in v w f j) (at w j 0)) (numbers 64)

unfoldable pub margins_in : View → List ℤ
margins_in v = map (λ j. cond (v.policy.part j) (margin v j) (pos 0)) (numbers 64)
