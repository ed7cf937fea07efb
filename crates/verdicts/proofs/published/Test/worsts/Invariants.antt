-- `worsts` meets its contract. The invariant: the worst finishes over the rows before row x.
use mathlib.Core.Path.{◌≡◌}
use Rattle.model.specs.Sets.{view}
use Rattle.model.specs.Scenarios.{places}
use Rattle.verdicts.proofs.RowLaws.{worst_to}
use Rattle.verdicts.proofs.published.Test.worsts.Given as goal

abbrev pub invariant-loop-x : goal.invariant-loop-x
invariant-loop-x l = l.worsts ≡ places (view l.self.set) (worst_to (view l.self.set) l.x)
