-- `span_in` meets its contract: the span of a set that passes the checks is at most 4,096.
use native.Mathlib.Omega.{arith}
use Rattle.laws.proofs.Checks.{passes_sound}
use Rattle.runs.proofs.span_in.Goals as goal

pub overflow_cast-result : goal.overflow_cast-result
overflow_cast-result c = omega (arith, (passes_sound c.args.s.now c.requires).bounded, c.span_of.ensures)
