-- `step` meets its contract: whoever is picked can be accounted.
use Rattle.std.proofs.Common.{rules}
use mathlib.Core.Path.{◌≡◌}
use lib.ListN.{length}
use Rattle.runs.proofs.Steps.{can_account}
use Rattle.runs.proofs.engine.Run.step.Goals as goal

pub account-requires : goal.account-requires
account-requires c =
    let places : length c.args.g.now.state.done ≡ 64 = search rules in
    can_account _ _ _ _ _ places c.requires c.pick-job.ensures
