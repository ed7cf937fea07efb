-- `job` meets its contract: the line, and what it says. Assumes nothing.
use mathlib.Core.Path.{sym}
use Rattle.forms.specs.Forms.{job_limits, job_of}
use Rattle.laws.proofs.Exits.{exit}
use Rattle.plan_text.specs.Parts.{limit_at, limits_from, limits}
use Rattle.plan_text.proofs.Steps.{stuck_in, gives}
use Rattle.plan_text.proofs.reader.Reader.job.Goals as goal

pub returns-in_err-line : goal.returns-in_err-line
unfolding job_limits limits limits_from limit_at
returns-in_err-line c =
    rw (exit _ _ c.from_residual.ensures.1) (stuck_in _ _ _ _ _ c.line.ensures _ c.in_err-line.was (λ f l. f (job_of l)) _ _ c.line.ensures.same)

pub returns : goal.returns
unfolding job_limits limits limits_from limit_at
returns c = gives _ _ _ _ _ c.line.ensures _ c.in_ok-line.was job_of _ _ (sym c.job_of.ensures)
