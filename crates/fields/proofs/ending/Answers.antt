-- `ending` meets its contract: the byte, then the line feed. Assumes nothing.
use Rattle.forms.specs.Forms.{bytes, lf}
use Rattle.forms.specs.Forms.Form.{byte}
use Rattle.laws.proofs.Exits.{exit}
use Rattle.fields.proofs.Given.{stuck-before, goes_on}
use Rattle.fields.proofs.ending.Goals as goal

pub returns-in_err-expect : goal.returns-in_err-expect
unfolding bytes lf
returns-in_err-expect c =
    rw (exit _ _ c.from_residual.ensures.1) (stuck-before _ _ _ (byte 10) _ c.expect.ensures _ c.in_err-expect.was)

pub returns : goal.returns
unfolding bytes lf
returns c = goes_on _ _ _ (byte 10) _ c.expect.ensures _ _ c.in_ok-expect.was c.expect-2.ensures
