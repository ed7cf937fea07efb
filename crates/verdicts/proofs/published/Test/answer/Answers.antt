-- `answer` meets its contract: beside each verdict stands what the model has beside it.
use Rattle.model.specs.Scenarios.{zeros}
use Rattle.verdicts.proofs.Found.{answer-fit, answer_unfit}
use Rattle.verdicts.proofs.published.Test.answer.Goals as goal

pub returns-in-Fit : goal.returns-in-Fit
unfolding zeros
returns-in-Fit c = answer-fit _ _ _ c.requires.verdict_is.is c.in-Fit.is (c.requires.worsts_are c.in-Fit.is)

pub returns-in-Unfit : goal.returns-in-Unfit
unfolding zeros
returns-in-Unfit c = answer_unfit _ _ _ _ c.requires.verdict_is.is c.in-Unfit.is c.times-times.ensures
