-- `hi_jobs` meets its contract: there are no more than the jobs, which are fewer than 2 ^ 64. Assumes nothing.
use Rattle.std.proofs.Common.{rules, arith, ◌^◌, ◌-◌, ◌≤◌, length}
use Rattle.std.proofs.lemmas.Iterator.{YieldsList-from_slice}
use Rattle.std.proofs.lemmas.Iterator.Adapters.{fits_from_length, at_most_from_yields_List}
use Rattle.forms.proofs.Sections.{level_most}
use Rattle.plan_text.proofs.hi_jobs.Goals as goal

pub sum-requires-clause-fits : goal.sum-requires-clause-fits
sum-requires-clause-fits c =
    let few : length c.args.jobs.now ≤ 2 ^ 64 - 1 = omega arith in
    fits_from_length _ _ (2 ^ 64 - 1) (2 ^ 64) (at_most_from_yields_List (YieldsList-from_slice c.args.jobs.now cc) few) c.map.ensures.closure (omega arith)
    (λ x r q k. search (rules, level_most))
