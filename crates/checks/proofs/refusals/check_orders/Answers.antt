-- `checks::refusals::check_orders` meets its contract: where the LO order has no fault, the HI order decides. Assumes nothing.
use mathlib.Core.List.{[], ◌∷◌}
use mathlib.Core.Path.{◌∙◌}
use native.Mathlib.Omega.{arith}
use Rattle.model.specs.Sets.{view}
use Rattle.model.specs.Refusals.{check_lo_order, check_hi_order}
use Rattle.laws.proofs.Exits.{exit}
use Rattle.checks.proofs.Firsts.{taken, passed, lo_is, hi_is}
use Rattle.checks.proofs.refusals.check_orders.Goals as goal

pub returns-in_err-refuse : goal.returns-in_err-refuse
returns-in_err-refuse c =
    let v = view c.args.s.now in
    let lo = lo_is c.args.s.now c.fault_of.result c.allowed.result (omega arith) c.allowed.ensures c.fault_of.ensures in
    exit _ _ c.from_residual.ensures.1 ∙ taken (check_lo_order v ∷ []) (check_hi_order v ∷ []) _ (c.in_err-refuse.ensures ∙ lo)

pub returns : goal.returns
returns c =
    let v = view c.args.s.now in
    let lo = lo_is c.args.s.now c.fault_of.result c.allowed.result (omega arith) c.allowed.ensures c.fault_of.ensures in
    c.refuse-2.ensures
    ∙ hi_is c.args.s.now c.fault_of-2.result c.allowed-2.result (omega arith) c.allowed-2.ensures c.fault_of-2.ensures
    ∙ passed (check_lo_order v ∷ []) (check_hi_order v ∷ []) (c.in_ok-refuse.ensures ∙ lo)
