-- `columns_of` meets its contract. The invariant: the columns are filled up to job i.
use mathlib.Core.Path.{◌≡◌}
use Rattle.columns.proofs.Jobs.{columns_to}
use Rattle.columns.proofs.columns_of.Given as goal

abbrev pub invariant-loop-i : goal.invariant-loop-i
invariant-loop-i l = l.k ≡ columns_to l.fn.s l.i
