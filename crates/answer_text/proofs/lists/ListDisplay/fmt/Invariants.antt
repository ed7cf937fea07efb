use Rattle.std.proofs.Common.{take, IfSome}
use Rattle.std.specs.Fmt.{HasWritten, IsPlainFormatter}
use Rattle.answer_text.specs.Words.{list_words}
use Rattle.answer_text.proofs.lists.ListDisplay.fmt.Given as goal

abbrev pub invariant-loop-x : goal.invariant-loop-x
invariant-loop-x g l =
    IsPlainFormatter l.initial.f → IfSome (list_words g.T.Display.output (take l.x-index l.x-items)) (λ bs. HasWritten g.W.Write.write_str_gives l.initial.f bs l.f)
