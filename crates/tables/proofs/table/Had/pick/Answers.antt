-- `pick` meets its contract: what it finds in the order is the first enabled job.
use Rattle.std.proofs.Common.{rules}
use Rattle.std.specs.Slice.Iter.{iter_rest}
use Rattle.std.proofs.lemmas.Iterator.{YieldsList-from_slice}
use Rattle.std.proofs.lemmas.Iterator.Consumers.{YieldsList-from_copied}
use Rattle.std.proofs.lemmas.Iterator.Search.{find_from_yields_List}
use mathlib.Core.Path.{◌∙◌, ap}
use Rattle.tables.specs.Slots.{enabled_in, chosen}
use Rattle.tables.proofs.Slots.{first_found}
use Rattle.tables.proofs.table.Had.pick.Goals as goal

pub returns : goal.returns
unfolding chosen
returns c =
    let k = c.args.k.now in
    let s = c.args.self.now in
    let test = enabled_in s.hi s.lo k.lo k.hi c.args.slot in
    c.unwrap_or.ensures
    ∙ first_found test c.order.result.now c.find.result
    (find_from_yields_List test _ _ c.find.result c.find.ensures.ran
    (YieldsList-from_copied (YieldsList-from_slice c.order.result.now (ap iter_rest c.copied.ensures.source ∙ c.iter.ensures.rest)))
    (λ x b q h. search rules))
    ∙ rw c.order.ensures
