-- `raise` meets its contract. The invariant: the worst finishes of the jobs passed are raised, and every other place stays.
use mathlib.Core.Path.{◌≡◌}
use lib.ListN.{length}
use Rattle.model.specs.Lists.{at}
use Rattle.model.specs.Sets.{view}
use Rattle.verdicts.specs.Rows.{worse_in}
use Rattle.laws.proofs.Fill.{mixed}
use Rattle.verdicts.proofs.published.Test.raise.Given as goal

abbrev pub invariant-loop-i : goal.invariant-loop-i
invariant-loop-i l = l.worsts ≡ mixed (length l.yielded) (worse_in (view l.self.set) l.initial.worsts l.finishes) (λ j. at l.initial.worsts j 0)
