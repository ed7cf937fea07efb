use Rattle.model.specs.Printed.{scenario_number}
use Rattle.model.proofs.U16FromScenario.from.Goals as goal

pub returns-in-Lo : goal.returns-in-Lo
unfolding scenario_number
returns-in-Lo c = rw c.in-Lo.is

pub returns-in-Hi : goal.returns-in-Hi
unfolding scenario_number
returns-in-Hi c = rw c.in-Hi.is
