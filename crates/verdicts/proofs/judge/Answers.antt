use Rattle.verdicts.proofs.judge.Goals as goal
use mathlib.Core.Path.{ap}
use Rattle.model.specs.declared.Assessed.{Assessed}
use Rattle.model.specs.Answers.{assessed}

pub returns : goal.returns
unfolding assessed
returns c = ap (λ (a : Assessed). a.judged) c.assess.ensures
