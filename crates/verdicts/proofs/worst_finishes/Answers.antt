-- `worst_finishes` meets its contract: nothing where the set is refused, or the worst over its runs.
use mathlib.Core.Path.{◌∙◌, ap}
use Rattle.model.specs.Sets.{view}
use Rattle.model.specs.Answers.{worsts}
use Rattle.verdicts.proofs.AnswerLaws.{refused-worsts, found-worsts}
use Rattle.verdicts.proofs.worst_finishes.Goals as goal

pub returns-in-Ok : goal.returns-in-Ok
returns-in-Ok c = c.worsts.ensures ∙ found-worsts _ c.in-Ok.test.good ∙ ap (λ s. worsts (view s)) c.in-Ok.ensures

pub returns-in-Err : goal.returns-in-Err
returns-in-Err c = refused-worsts _ c.in-Err.ensures.1
