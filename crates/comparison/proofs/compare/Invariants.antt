use Rattle.std.proofs.Common.{length}
use Rattle.comparison.proofs.compare.Given as goal

abbrev pub decreases-loop-line : goal.decreases-loop-line
decreases-loop-line g l = length l.rest
