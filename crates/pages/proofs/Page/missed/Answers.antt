-- `missed` meets its contract: one line of four fields.
use mathlib.Core.List.{append_assoc}
use Rattle.model.specs.Texts.{fields}
use Rattle.model.specs.Printed.{fit_word, unfit_word}
use Rattle.pages.specs.Lines.{miss_line}
use Rattle.pages.proofs.Puts.{put-page}
use Rattle.pages.proofs.Page.missed.Goals as goal

pub returns : goal.returns
unfolding miss_line unfit_word fit_word fields
returns c =
    simp (
      c.with_byte.ensures,
      c.with_field-3.ensures,
      c.with_field-2.ensures,
      c.with_field.ensures,
      c.with_bytes.ensures,
      c.empty.ensures,
      c.from-2.ensures,
      c.from.ensures,
      c.from-3.ensures,
      c.from-4.ensures,
      put-page,
      append_assoc,
    )
