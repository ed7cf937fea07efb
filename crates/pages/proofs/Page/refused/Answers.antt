-- `refused` meets its contract: one line of three fields.
use mathlib.Core.List.{append_assoc}
use Rattle.model.specs.Texts.{fields}
use Rattle.model.specs.Printed.{refused_word, refused_text}
use Rattle.pages.proofs.Puts.{put-page}
use Rattle.pages.proofs.Page.refused.Goals as goal

pub returns : goal.returns
unfolding refused_text refused_word fields
returns c =
    simp (
      c.with_byte.ensures,
      c.with_field-2.ensures,
      c.with_field.ensures,
      c.with_bytes.ensures,
      c.empty.ensures,
      c.from-number.ensures,
      put-page,
      append_assoc,
    )
