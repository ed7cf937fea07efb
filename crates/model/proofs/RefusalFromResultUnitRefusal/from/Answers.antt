use mathlib.Core.Path.{refl}
use Rattle.model.specs.Refusals.{told, good}
use Rattle.model.proofs.RefusalFromResultUnitRefusal.from.Goals as goal

pub returns-in-Ok : goal.returns-in-Ok
unfolding told good
returns-in-Ok c = rw c.in-Ok.is refl

pub returns-in-Err : goal.returns-in-Err
unfolding told
returns-in-Err c = rw c.in-Err.is refl
