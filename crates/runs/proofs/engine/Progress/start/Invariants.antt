-- `start` meets its contract. The invariant: the places passed are done where there is nothing to do, and the others are done.
use mathlib.Core.Path.{◌≡◌}
use mathlib.Core.Bool.{true}
use Rattle.laws.proofs.Fill.{up_to}
use Rattle.runs.proofs.Starts.{over}
use Rattle.runs.proofs.engine.Progress.start.Given as goal

abbrev pub invariant-loop-i : goal.invariant-loop-i
invariant-loop-i l = l.done ≡ up_to l.i (over l.n l.times) true
