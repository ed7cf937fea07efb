-- `search` meets its contract. The invariant over the scenarios: the verdict is what the search from scenario x on finds, and the worst finishes
-- are those over the scenarios before x. Over the jobs: those passed have no required miss.
use lib.ListN.{length}
use Rattle.model.specs.Sets.{view}
use Rattle.model.specs.Scenarios.{times_of}
use Rattle.verdicts.proofs.Found.{Turn}
use Rattle.verdicts.proofs.Search.{Passed}
use Rattle.verdicts.proofs.published.Test.search.Given as goal

abbrev pub invariant-loop-i : goal.invariant-loop-i
invariant-loop-i l = Passed (view l.self.set) (times_of (view l.self.set) l.scenario) (length l.yielded)

abbrev pub invariant-loop-x : goal.invariant-loop-x
invariant-loop-x l = Turn l.self.set l.x l.worsts
