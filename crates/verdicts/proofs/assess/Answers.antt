-- `assess` meets its contract: refused as the checks say, or the verdict that the search finds.
use mathlib.Core.Path.{◌∙◌, ap}
use Rattle.model.specs.Sets.{view}
use Rattle.model.specs.Answers.{assessed}
use Rattle.verdicts.proofs.AnswerLaws.{refused-assessed, found-assessed}
use Rattle.verdicts.proofs.assess.Goals as goal

pub returns-in-Ok : goal.returns-in-Ok
returns-in-Ok c = c.search.ensures ∙ found-assessed _ c.in-Ok.test.good ∙ ap (λ s. assessed (view s)) c.in-Ok.ensures

pub returns-in-Err : goal.returns-in-Err
returns-in-Err c = refused-assessed _ c.in-Err.ensures.1 _ c.in-Err.ensures.0
