-- `finish_rows` meets its contract: rows of nothing where the set is refused, or the rows of its scenarios.
use mathlib.Core.Path.{◌∙◌, ap}
use Rattle.model.specs.Sets.{view}
use Rattle.model.specs.Answers.{finish_rows}
use Rattle.verdicts.proofs.AnswerLaws.{refused-rows, found_rows}
use Rattle.verdicts.proofs.finish_rows.Goals as goal

pub returns-in-Ok : goal.returns-in-Ok
returns-in-Ok c = c.rows.ensures ∙ found_rows _ c.in-Ok.test.good ∙ ap (λ s. finish_rows (view s)) c.in-Ok.ensures

pub returns-in-Err : goal.returns-in-Err
returns-in-Err c = refused-rows _ c.in-Err.ensures.1
