-- `in_range` meets its contract. The invariant: the times of the jobs passed lie in their range.
use Rattle.runs.proofs.RangeLaws.{Inside}
use Rattle.runs.proofs.engine.Run.in_range.Given as goal

abbrev pub invariant-loop-i : goal.invariant-loop-i
invariant-loop-i l = Inside l.self.k.now l.self.times.now l.i
