-- `checks::check` meets its contract: the checks come in their order, and each group that passes leaves it to those after it. Check 2 gives
-- what the orders' checks require. Assumes nothing.
use mathlib.Core.List.{List, [], ◌∷◌, ◌++◌}
use mathlib.Core.Path.{◌∙◌, ap}
use Rattle.model.specs.declared.Refusal.{Refusal}
use Rattle.model.specs.Sets.{View, view}
use Rattle.model.specs.Refusals.{check_count, check_time, check_budget, check_span, check_lo_order, check_hi_order, checks, checked, refusal}
use Rattle.laws.proofs.Exits.{exit}
use Rattle.checks.proofs.Firsts.{taken, passed, count_is, counts_fit}
use Rattle.checks.proofs.check.Goals as goal

count_check : View → List Refusal
count_check v = check_count v ∷ []

job_checks : View → List Refusal
job_checks v = check_time v ∷ check_budget v ∷ check_span v ∷ []

order_checks : View → List Refusal
order_checks v = check_lo_order v ∷ check_hi_order v ∷ []

pub returns-in_err-check_count : goal.returns-in_err-check_count
unfolding count_check job_checks order_checks refusal checks
returns-in_err-check_count c =
    let s = c.args.s.now in
    let v = view s in
    exit _ _ c.from_residual.ensures.1
    ∙ taken (count_check v) (job_checks v ++ order_checks v) _ (c.in_err-check_count.ensures ∙ ap checked (count_is s))

pub returns-in_err-check_jobs : goal.returns-in_err-check_jobs
unfolding count_check job_checks order_checks refusal checks
returns-in_err-check_jobs c =
    let s = c.args.s.now in
    let v = view s in
    exit _ _ c.from_residual-in_err-check_jobs.ensures.1
    ∙ taken (job_checks v) (order_checks v) _ c.in_err-check_jobs.ensures
    ∙ passed (count_check v) (job_checks v ++ order_checks v) (c.in_ok-check_count.ensures ∙ ap checked (count_is s))

pub check_orders-requires : goal.check_orders-requires
check_orders-requires c = counts_fit c.args.s.now c.in_ok-check_count.ensures

pub returns : goal.returns
unfolding count_check job_checks order_checks refusal checks
returns c =
    let s = c.args.s.now in
    let v = view s in
    c.check_orders.ensures
    ∙ passed (job_checks v) (order_checks v) c.in_ok-check_jobs.ensures
    ∙ passed (count_check v) (job_checks v ++ order_checks v) (c.in_ok-check_count.ensures ∙ ap checked (count_is s))
