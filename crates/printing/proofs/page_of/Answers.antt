-- `page_of` meets its contract: refused as the text is, or as the set is judged.
use mathlib.Core.Path.{sym, ◌∙◌}
use Rattle.printing.proofs.PageLaws.{refused-printed, judged-printed}
use Rattle.printing.proofs.page_of.Goals as goal

pub returns-in-Ok : goal.returns-in-Ok
returns-in-Ok c = judged-printed _ _ (sym c.in-Ok.is ∙ c.check.ensures) c.judged_page.ensures

pub returns-in-Err : goal.returns-in-Err
returns-in-Err c = refused-printed _ _ _ (sym c.in-Err.is ∙ c.check.ensures) c.refused.ensures
