-- `run` meets its contract: the times of a scenario lie in their range, so its run is not refused.
use Rattle.verdicts.proofs.Scenarios.{scenario-ran}
use Rattle.verdicts.proofs.published.Test.run.Goals as goal

pub returns : goal.returns
returns c = scenario-ran _ c.args.self.now.good _ c.requires _ _ c.times.ensures c.execute.ensures
