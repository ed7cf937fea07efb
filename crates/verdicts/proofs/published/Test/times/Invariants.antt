-- `times` meets its contract. The invariant: the times of the jobs passed, and 0 at every other place.
use mathlib.Core.Path.{◌≡◌}
use lib.ListN.{length}
use Rattle.model.specs.Sets.{view}
use Rattle.verdicts.specs.Tests.{time_in}
use Rattle.laws.proofs.Fill.{up_to}
use Rattle.verdicts.proofs.published.Test.times.Given as goal

abbrev pub invariant-loop-i : goal.invariant-loop-i
invariant-loop-i l = l.times ≡ up_to (length l.yielded) (time_in (view l.self.set) l.own) 0
