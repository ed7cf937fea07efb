-- `checks::refusal_of` meets its contract: a check's result, told as an answer. Assumes nothing.
use mathlib.Core.Path.{◌∙◌, ap}
use Rattle.model.specs.Sets.{view}
use Rattle.model.specs.Refusals.{told}
use Rattle.checks.proofs.Checked.{told-checked}
use Rattle.checks.proofs.refusal_of.Goals as goal

pub returns : goal.returns
returns c = c.from.ensures ∙ ap told c.check.ensures ∙ told-checked (view c.args.s)
