-- `with_margin` meets its contract: negative and not.
use Rattle.pages.specs.Pages.{put}
use Rattle.pages.proofs.Numerals.{signed_late, signed_timely}
use Rattle.pages.proofs.Page.with_margin.Goals as goal

pub returns-then-deadline-worst : goal.returns-then-deadline-worst
unfolding put
returns-then-deadline-worst c =
    rw (c.with_decimal.ensures, c.with_byte-then-deadline-worst.ensures, c.with_byte.ensures, signed_late _ _ c.if-deadline-worst.true)

pub returns-else-deadline-worst : goal.returns-else-deadline-worst
returns-else-deadline-worst c = rw (c.with_field.ensures, signed_timely _ _ c.if-deadline-worst.false)
