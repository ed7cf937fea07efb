-- `make_tables` meets its contract: its answer is the refusal that making them comes to.
use mathlib.Core.Path.{◌∙◌, ap}
use Rattle.model.specs.Answers.{tables_refusal}
use Rattle.model.specs.Refusals.{told}
use Rattle.runs.proofs.Refused.{told_first}
use Rattle.tables.proofs.make_tables.Goals as goal

pub returns-clause-answer : goal.returns-clause-answer
unfolding tables_refusal
returns-clause-answer c = c.from.ensures ∙ ap told c.write_tables.ensures.answer ∙ told_first _
