-- `fit` meets its contract: the first line, then the line of one job after the other.
use Rattle.std.proofs.Common.{rules, ◌∙◌, ◌≡◌}
use Rattle.std.proofs.lemmas.Iterator.{YieldsList-from_slice, YieldsList-from_zip}
use Rattle.std.proofs.lemmas.Iterator.Consumers.{fold_from_yields_List, YieldsList-from_enumerate}
use mathlib.Core.List.{append_assoc}
use native.Mathlib.Omega.{arith}
use lib.ListN.{take}
use Rattle.model.specs.Sets.{view, members}
use Rattle.model.specs.Scenarios.{margin}
use Rattle.model.specs.Texts.{fields}
use Rattle.model.specs.Printed.{fit_word, fit_text}
use Rattle.pages.specs.Lines.{job_line}
use Rattle.pages.specs.Pages.{put}
use Rattle.pages.proofs.Puts.{put-page}
use Rattle.printing.specs.Lines.{job_lines}
use Rattle.printing.proofs.JobLaws.{good-count, one_line, jobs_put}
use Rattle.printing.proofs.lines.Passed.fit.Goals as goal

pub shared_ref_as_front-iter : goal.shared_ref_as_front-iter
shared_ref_as_front-iter c = (good-count _ c.args.self.now.passes).1

jobs : (c : goal.After-fold) → c.fold.result ≡ put c.with_byte-head.result (job_lines (view c.args.self.now.set.now) (members (view c.args.self.now.set.now).policy))
jobs c =
    let s = c.args.self.now.set.now in
    let w = c.args.worsts.now in
    fold_from_yields_List _ one_line _ _ c.fold.ensures.ran
    (YieldsList-from_enumerate (YieldsList-from_zip (YieldsList-from_slice (take s.count s.jobs) cc) (YieldsList-from_slice w cc)) (cc))
    (λ a x b q k. search rules)
    ∙ jobs_put s c.args.self.now.passes (omega arith) w c.requires (search rules) c.with_byte-head.result

pub returns : goal.returns
unfolding fit_word fit_text fields job_lines job_line margin
returns c =
    simp (
      jobs c,
      c.with_byte-head.ensures,
      c.with_field.ensures,
      c.with_bytes.ensures,
      c.empty.ensures,
      c.span_of.ensures,
      put-page,
      append_assoc,
    )
