use mathlib.Core.Path.{◌∙◌}
use Rattle.columns.proofs.Jobs.{columns_zero, columns_more, columns_all}
use Rattle.columns.proofs.columns_of.Goals as goal

pub loop-i-init : goal.loop-i-init
loop-i-init c = columns_zero _

pub loop-i-preserved : goal.loop-i-preserved
loop-i-preserved c =
    let jobs = c.members-job-items.ensures in
    columns_more _ _ _ _ _ _ c.loop-i.invariant jobs.jobs jobs.count c.loop-i-test.true c.eq.ensures

pub returns : goal.returns
returns c = c.loop-i.invariant ∙ columns_all _ _ _ c.members-job-items.ensures.count c.loop-i.auto.i-end c.loop-i-test.false
