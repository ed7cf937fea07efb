-- `jobs` meets its contract. The invariant: the jobs before the place have been read.
use mathlib.Core.List.{[]}
use lib.ListN.{length}
use Rattle.forms.specs.Forms.{jobs}
use Rattle.plan_text.proofs.Jobs.{jobs_from}
use Rattle.plan_text.proofs.Several.{Begun}
use Rattle.plan_text.proofs.reader.Reader.jobs.Given as goal

abbrev pub invariant-loop-job : goal.invariant-loop-job
invariant-loop-job l = let n = length l.fn.jobs in Begun (jobs n []) (jobs_from n) l.initial.self n l.self l.jobs l.job-index
