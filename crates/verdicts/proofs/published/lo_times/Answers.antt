-- `lo_times` meets its contract: the column of the LO budgets is what scenario 0 gives.
use mathlib.Core.Path.{ap}
use Rattle.model.specs.Scenarios.{lo_times}
use Rattle.columns.specs.Columns.{columns_of}
use Rattle.verdicts.proofs.published.lo_times.Goals as goal

pub returns : goal.returns
unfolding lo_times columns_of
returns c = ap (λ k. k.lo) c.columns_of.ensures
