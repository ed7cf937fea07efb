-- `slots` meets its contract: its answer is the refusal that writing them comes to.
use mathlib.Core.Path.{◌∙◌, ap}
use Rattle.model.specs.Answers.{slots_refusal}
use Rattle.model.specs.Refusals.{told}
use Rattle.runs.proofs.Refused.{told_first}
use Rattle.runs.proofs.slots.Goals as goal

pub returns-clause-answer : goal.returns-clause-answer
unfolding slots_refusal
returns-clause-answer c = c.from.ensures ∙ ap told c.write_slots.ensures.answer ∙ told_first _
