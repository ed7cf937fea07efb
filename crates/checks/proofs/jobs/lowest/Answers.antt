-- `checks::jobs::lowest` meets its contract: the place of the first job that breaks the rule, from 1, is its number.
use Rattle.std.proofs.Common.{rules, ◌≡◌, ◌+◌, ◌∙◌, sym, ap}
use Rattle.std.specs.Option.{option_map}
use Rattle.std.proofs.lemmas.Iterator.{YieldsList-from_slice}
use Rattle.std.proofs.lemmas.Iterator.Adapters.{position_from-zero}
use Rattle.std.proofs.lemmas.Iterator.Search.{position_from_yields_List}
use Rattle.rules.proofs.Members.{first_of_jobs}
use Rattle.checks.proofs.jobs.lowest.Goals as goal

pub returns : goal.returns
returns g c = λ rule h.
    let jobs = c.members.result.now in
    let found =
    position_from_yields_List rule _ _ c.position.result c.position.ensures.ran (YieldsList-from_slice jobs cc) (λ x b q k. search (rules, h))
    ∙ position_from-zero rule jobs in
    let e : c.map.result ≡ option_map (λ i. i + 1) c.position.result = search rules in
    e ∙ ap (option_map (λ i. i + 1)) found ∙ sym (first_of_jobs c.args.s.now jobs c.members.ensures.jobs c.members.ensures.count rule)
