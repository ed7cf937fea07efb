-- `checks::refusals::check_jobs` meets its contract: each check that passes leaves it to those after it. Assumes nothing.
use mathlib.Core.List.{[], ◌∷◌}
use mathlib.Core.Path.{◌∙◌, ap}
use native.Mathlib.Omega.{arith}
use lib.Dec.{ltb}
use Rattle.std.specs.Bool.{then_some}
use Rattle.model.specs.Sets.{span, view}
use Rattle.model.specs.Refusals.{checked, check_time, check_budget, check_span, refused}
use Rattle.rules.specs.Rules.{untimely, unbudgeted}
use Rattle.laws.proofs.Exits.{exit}
use Rattle.checks.proofs.Firsts.{alone, taken, passed, refused_where, time_is, budget_is}
use Rattle.checks.proofs.refusals.check_jobs.Goals as goal

pub returns-in_err-refuse : goal.returns-in_err-refuse
returns-in_err-refuse c =
    let v = view c.args.s.now in
    let time = time_is c.args.s.now c.lowest.result (c.lowest.ensures untimely (λ j b p. p.1)) in
    exit _ _ c.from_residual.ensures.1 ∙ taken (check_time v ∷ []) (check_budget v ∷ check_span v ∷ []) _ (c.in_err-refuse.ensures ∙ time)

pub returns-in_err-refuse-2 : goal.returns-in_err-refuse-2
returns-in_err-refuse-2 c =
    let v = view c.args.s.now in
    let time = time_is c.args.s.now c.lowest.result (c.lowest.ensures untimely (λ j b p. p.1)) in
    let budget = budget_is c.args.s.now c.lowest-2.result (c.lowest-2.ensures unbudgeted (λ j b p. p.1)) in
    exit _ _ c.from_residual-in_err-refuse-2.ensures.1
    ∙ taken (check_budget v ∷ []) (check_span v ∷ []) _ (c.in_err-refuse-2.ensures ∙ budget)
    ∙ passed (check_time v ∷ []) (check_budget v ∷ check_span v ∷ []) (c.in_ok-refuse.ensures ∙ time)

pub returns : goal.returns
unfolding check_span
returns c =
    let v = view c.args.s.now in
    let time = time_is c.args.s.now c.lowest.result (c.lowest.ensures untimely (λ j b p. p.1)) in
    let budget = budget_is c.args.s.now c.lowest-2.result (c.lowest-2.ensures unbudgeted (λ j b p. p.1)) in
    c.refuse-3.ensures
    ∙ ap (refused 5) (c.then_some.ensures ∙ ap (λ n. then_some (ltb 4096 n) n) c.span_of-n.ensures)
    ∙ refused_where 5 (span v) (ltb 4096 (span v)) (omega arith)
    ∙ ap checked (alone 5 (span v) (ltb 4096 (span v)) (omega arith))
    ∙ passed (check_budget v ∷ []) (check_span v ∷ []) (c.in_ok-refuse-2.ensures ∙ budget)
    ∙ passed (check_time v ∷ []) (check_budget v ∷ check_span v ∷ []) (c.in_ok-refuse.ensures ∙ time)
