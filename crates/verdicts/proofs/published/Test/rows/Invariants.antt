-- `rows` meets its contract. The invariant: the rows before row x, and nothing in the others.
use mathlib.Core.Path.{◌≡◌}
use Rattle.model.specs.Sets.{view}
use Rattle.verdicts.proofs.RowLaws.{rows_to}
use Rattle.verdicts.proofs.published.Test.rows.Given as goal

abbrev pub invariant-loop-x : goal.invariant-loop-x
invariant-loop-x l = l.rows ≡ rows_to (view l.self.set) l.x
