-- `more` meets its contract. The invariant: what is read from the cursor on, behind the digits so far, is what is to be found.
use Rattle.fields.proofs.Digits.{Goes}
use Rattle.fields.proofs.more.Given as goal

abbrev pub invariant-loop-i : goal.invariant-loop-i
invariant-loop-i l = Goes l.text l.at l.most l.behind l.n l.i l.value
