-- `unfit` meets its contract: the first line, then the running times.
use Rattle.std.proofs.Common.{rules}
use Rattle.model.specs.Printed.{unfit_text}
use Rattle.pages.specs.Lines.{miss_line}
use Rattle.pages.proofs.Puts.{put-page}
use Rattle.printing.proofs.JobLaws.{good-count, times_are}
use Rattle.printing.proofs.lines.Passed.unfit.Goals as goal

pub shared_ref_as_front-with_times : goal.shared_ref_as_front-with_times
shared_ref_as_front-with_times c = (good-count _ c.args.self.now.passes).1

pub returns : goal.returns
unfolding unfit_text miss_line
returns c = rw (c.with_times.ensures, c.missed.ensures, times_are _ c.args.self.now.passes c.args.times.now (search rules)) (put-page _ _)
