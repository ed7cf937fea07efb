-- `margins` meets its contract. The invariant: the margins of the jobs passed, and 0 at every other place.
use mathlib.Core.Path.{◌≡◌}
use lib.IntN.{pos}
use lib.ListN.{length}
use Rattle.model.specs.Sets.{view}
use Rattle.model.specs.Scenarios.{margin}
use Rattle.laws.proofs.Fill.{up_to}
use Rattle.verdicts.proofs.published.Test.margins.Given as goal

abbrev pub invariant-loop-i : goal.invariant-loop-i
invariant-loop-i l = l.margins ≡ up_to (length l.yielded) (margin (view l.self.set)) (pos 0)
