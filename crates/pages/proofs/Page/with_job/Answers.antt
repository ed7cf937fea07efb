-- `with_job` meets its contract: one line of three fields.
use mathlib.Core.List.{append_assoc}
use Rattle.model.specs.Texts.{fields}
use Rattle.pages.specs.Lines.{job_line}
use Rattle.pages.proofs.Puts.{put-append}
use Rattle.pages.proofs.Page.with_job.Goals as goal

pub returns : goal.returns
unfolding job_line fields
returns c =
    simp (
      c.with_byte.ensures,
      c.with_margin.ensures,
      c.with_field.ensures,
      c.with_decimal.ensures,
      c.from-finish.ensures,
      c.from.ensures,
      put-append,
      append_assoc,
    )
