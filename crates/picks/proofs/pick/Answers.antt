-- `pick` meets its contract: what `find` finds is the first that is ready.
use Rattle.std.proofs.Common.{rules, ◌∙◌, sym, suc}
use Rattle.std.proofs.lemmas.Iterator.{YieldsList-from_slice}
use Rattle.std.proofs.lemmas.Iterator.Adapters.{option_map_id}
use Rattle.std.proofs.lemmas.Iterator.Consumers.{YieldsList-from_copied}
use Rattle.std.proofs.lemmas.Iterator.Search.{find_from_yields_List}
use borrow.Author.Tests.{tests}
use Rattle.model.specs.Lists.{at}
use Rattle.model.specs.Runs.{ready}
use Rattle.picks.proofs.Ready.{found}
use Rattle.picks.proofs.pick.Goals as goal

pub returns : goal.returns
returns c =
    let a = c.args in
    sym (option_map_id c.find.result)
    ∙ find_from_yields_List (ready (λ j. at a.arrivals.now j (suc a.t)) a.done.now a.t) _ _ c.find.result c.find.ensures.ran
    (YieldsList-from_copied (YieldsList-from_slice a.order.now cc)) (λ x b q k. search (rules, tests))
    ∙ found a.order.now a.arrivals.now a.done.now a.t
