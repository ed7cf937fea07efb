-- `count` meets its contract: the first of two digits, then the last and the line feed. Assumes nothing.
use mathlib.Core.Path.{refl}
use Rattle.std.proofs.Common.{rules}
use native.Mathlib.Omega.{arith}
use Rattle.forms.specs.Forms.{count}
use Rattle.fields.specs.Cursors.{Steps}
use Rattle.laws.proofs.Exits.{exit}
use Rattle.plan_text.proofs.Counts.{one_digit, stuck_digit, last_digit}
use Rattle.plan_text.proofs.Steps.{given_stuck, given_read}
use Rattle.plan_text.proofs.reader.Reader.count.Goals as goal
use Rattle.plan_text.proofs.reader.Reader.count.Goals.{After-ending, then-n-lt10, else-n-lt10+in_ok-at}

told : (c : After-ending) → Steps c.args.self.now.text.now c.args.self.now.at (count c.args.n) c.ending.result
told c =
    elim c.if-n-lt10.branch [
      | then-n-lt10 w ↦ one_digit _ _ _ _ w.if-n-lt10.true (rw (← w.at-is) (search (rules, c.ending.ensures)))
      | else-n-lt10+in_ok-at w ↦
          last_digit _ _ _ w.if-n-lt10.false (omega arith) _ w.expect.ensures _ _ w.in_ok-at.was (rw (← w.at-is) (search (rules, c.ending.ensures)))
    ]

pub returns-in_err-at : goal.returns-in_err-at
returns-in_err-at c =
    rw (exit _ _ c.from_residual.ensures.1) (given_stuck _ (count c.args.n) _ (stuck_digit _ _ _ c.if-n-lt10.false (omega arith) _ c.expect.ensures _ c.in_err-at.was) _ refl)

pub returns-in_err-self : goal.returns-in_err-self
returns-in_err-self c =
    rw (exit _ _ c.from_residual-in_err-self.ensures.1) (given_stuck _ (count c.args.n) _ (told (goal.at.returns-in_err-self c).After-ending) _ c.in_err-self.was)

pub returns : goal.returns
returns c = given_read _ (count c.args.n) _ (told (goal.at.returns c).After-ending) _ c.in_ok-self.was
