-- `margins` meets its contract: nothing where the set is refused, or the deadlines minus the worst finishes.
use mathlib.Core.Path.{◌∙◌, ap}
use Rattle.model.specs.Sets.{view}
use Rattle.model.specs.Answers.{margins}
use Rattle.verdicts.proofs.AnswerLaws.{refused-margins, found-margins}
use Rattle.verdicts.proofs.margins.Goals as goal

pub returns-in-Ok : goal.returns-in-Ok
returns-in-Ok c = c.margins.ensures ∙ found-margins _ c.in-Ok.test.good ∙ ap (λ s. margins (view s)) c.in-Ok.ensures

pub returns-in-Err : goal.returns-in-Err
returns-in-Err c = refused-margins _ c.in-Err.ensures.1
