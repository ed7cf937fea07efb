-- `with_field` meets its contract: the space, then the number.
use Rattle.pages.proofs.Puts.{put-append}
use Rattle.pages.proofs.Page.with_field.Goals as goal

pub returns : goal.returns
returns c = rw (c.with_decimal.ensures, c.with_byte.ensures) (put-append _ _ _)
