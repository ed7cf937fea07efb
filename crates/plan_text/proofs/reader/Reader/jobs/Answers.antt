use mathlib.Core.Path.{refl}
use native.Mathlib.Omega.{arith}
use Rattle.laws.proofs.Exits.{exit}
use Rattle.plan_text.proofs.Jobs.{jobs_whole, jobs_first, jobs_none}
use Rattle.plan_text.proofs.Several.{begun, one_more, one_stuck, all_read}
use Rattle.plan_text.proofs.reader.Reader.jobs.Goals as goal

pub loop-job-init : goal.loop-job-init
loop-job-init c = begun _ _ _ _ (jobs_whole _) _ refl

pub returns-in_err-job : goal.returns-in_err-job
returns-in_err-job c =
    rw (exit _ _ c.from_residual.ensures.1) (one_stuck _ _ _ _ _ _ _ c.loop-job.invariant _ (jobs_first _ _ c.loop-job-test.true) _ _ c.job.ensures _ c.in_err-job.was _)

pub loop-job-preserved : goal.loop-job-preserved
loop-job-preserved c =
    one_more _ _ _ _ _ _ _ c.loop-job.invariant _ (jobs_first _ _ c.loop-job-test.true) _ _ c.job.ensures c.loop-job-test.true _ c.in_ok-job.was

pub returns : goal.returns
returns c = all_read _ _ _ _ _ _ _ c.loop-job.invariant (jobs_none _) (omega arith) c.loop-job-test.false
