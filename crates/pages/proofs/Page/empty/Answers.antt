-- `empty` meets its contract: room of 1,024 bytes, all 0, none of them written.
use mathlib.Core.Path.{refl}
use Rattle.pages.specs.Pages.{size, page}
use Rattle.pages.proofs.Page.empty.Goals as goal

pub returns : goal.returns
unfolding page size
returns c = refl
