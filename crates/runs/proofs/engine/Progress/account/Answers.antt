-- `account` meets its contract: a job that can be accounted can be given the slot.
use Rattle.runs.proofs.engine.Progress.account.Goals as goal

pub give-requires : goal.give-requires
give-requires c = let p = c.requires.place _ c.in-Some.is in (c.requires.instant, p.0, p.1, p.2)
