-- `with_decimal` meets its contract: one digit, or the text of the number, which has 64 bits.
use mathlib.Core.Path.{sym, ◌∙◌, ap}
use Rattle.forms.proofs.Decimals.{decimal_digit}
use Rattle.model.specs.Texts.{digit}
use Rattle.pages.specs.Pages.{put}
use Rattle.pages.proofs.Numerals.{written}
use Rattle.pages.proofs.Page.with_decimal.Goals as goal

pub returns-then-n-lt10 : goal.returns-then-n-lt10
unfolding digit
returns-then-n-lt10 c = c.with_byte.ensures ∙ ap (put c.args.self) (sym (decimal_digit c.args.n c.if-n-lt10.true))

pub returns : goal.returns
returns c =
    rw (c.with_bytes.ensures, c.as_bytes.ensures.value, c.format.ensures.text) (ap (put c.args.self) (written c.args.n c.ranges.n.fits))
