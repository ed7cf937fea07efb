use Rattle.std.proofs.Common.{◌≤◌, length}
use Rattle.comparison.proofs.lines.split_wanted.Given as goal

abbrev pub invariant-loop-line : goal.invariant-loop-line
invariant-loop-line l = length l.rest ≤ length l.text

abbrev pub decreases-loop-line : goal.decreases-loop-line
decreases-loop-line l = length l.rest
