-- `with_bytes` meets its contract: one byte after the other.
use mathlib.Core.Path.{refl}
use Rattle.pages.specs.Pages.{put}
use Rattle.pages.proofs.Puts.{put-turn, put-end}
use Rattle.pages.proofs.Page.with_bytes.Goals as goal

pub loop-byte-init : goal.loop-byte-init
loop-byte-init c = refl

pub loop-byte-preserved : goal.loop-byte-preserved
unfolding put
loop-byte-preserved c = put-turn _ _ _ _ _ c.loop-byte.invariant c.loop-byte-test.true c.add.ensures

pub returns : goal.returns
returns c = put-end _ _ _ _ c.loop-byte.invariant c.loop-byte-test.false
