-- `number` meets its contract: the number is that of `fields`, and the reader stands where it leads. Assumes nothing.
use Rattle.laws.proofs.Exits.{exit}
use Rattle.plan_text.proofs.Steps.{number_stuck, number_read, number_within}
use Rattle.plan_text.proofs.reader.Reader.number.Goals as goal

pub returns-in_err-got : goal.returns-in_err-got
returns-in_err-got c =
    rw (exit _ _ c.from_residual.ensures.1) (record { read = number_stuck _ _ _ _ _ c.number.ensures _ c.in_err-got.was; within = tt })

pub returns : goal.returns
returns c = record { read = number_read _ _ _ _ _ c.number.ensures _ c.in_ok-got.was; within = number_within c.args.self.now _ _ _ _ c.number.ensures _ c.in_ok-got.was }
