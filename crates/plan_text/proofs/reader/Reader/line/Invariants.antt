-- `line` meets its contract. The invariant: the numbers before place i have been read.
use mathlib.Core.List.{[]}
use Rattle.forms.specs.Forms.{row}
use Rattle.plan_text.specs.Parts.{limits}
use Rattle.plan_text.proofs.Rows.{row_from}
use Rattle.plan_text.proofs.Several.{Begun}
use Rattle.plan_text.proofs.reader.Reader.line.Given as goal

abbrev pub invariant-loop-i : goal.invariant-loop-i
invariant-loop-i l = Begun (row (limits l.level l.n) []) (row_from l.level l.n) l.initial.self l.n l.self l.values l.i
