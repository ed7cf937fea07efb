-- `judged_page` meets its contract: each arm is given the judgement that it is for.
use Rattle.std.specs.Prelude.{Ok as Found}
use mathlib.Core.Path.{◌≡◌, ◌∙◌, ap}
use Rattle.model.specs.declared.Verdict.TheVariants.{Fit, Unfit}
use Rattle.printing.proofs.PageLaws.{found-good, fit_worsts, refused-judged, fit_judged, unfit_judged}
use Rattle.printing.proofs.judged_page.Goals as goal

pub invariant_of-fit : goal.invariant_of-fit
invariant_of-fit c = record { passes = found-good _ _ c.assess-a.ensures _ c.in-Ok-Fit.is }

pub fit-requires : goal.fit-requires
fit-requires c =
    let f : c.in-Ok-Fit.field-0 ≡ Fit = rw c.in-Ok-Fit.is at c.in-Ok-Fit.field-0-is in
    fit_worsts _ _ c.assess-a.ensures (c.in-Ok-Fit.is ∙ ap Found f)

pub invariant_of-unfit : goal.invariant_of-unfit
invariant_of-unfit c = record { passes = found-good _ _ c.assess-a.ensures _ c.in-Ok-Unfit.is }

pub returns-in-Err : goal.returns-in-Err
returns-in-Err c = refused-judged _ _ c.assess-a.ensures _ _ c.in-Err.is c.refused.ensures

pub returns-in-Ok-Fit : goal.returns-in-Ok-Fit
returns-in-Ok-Fit c =
    let f : c.in-Ok-Fit.field-0 ≡ Fit = rw c.in-Ok-Fit.is at c.in-Ok-Fit.field-0-is in
    fit_judged _ _ c.assess-a.ensures _ (c.in-Ok-Fit.is ∙ ap Found f) c.fit.ensures

pub returns-in-Ok-Unfit : goal.returns-in-Ok-Unfit
returns-in-Ok-Unfit c =
    let f : c.in-Ok-Unfit.field-0 ≡ Unfit c.in-Ok-Unfit.miss = rw c.in-Ok-Unfit.is at c.in-Ok-Unfit.field-0-is in
    unfit_judged _ _ c.assess-a.ensures _ _ (c.in-Ok-Unfit.is ∙ ap Found f) c.unfit.ensures
