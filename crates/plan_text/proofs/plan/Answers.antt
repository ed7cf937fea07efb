-- `plan` meets its contract: section by section, what is left is to be of the form of the sections to come. Assumes nothing.
use Prim.Native.Nat.{◌≤◌}
use mathlib.Core.Path.{◌≡◌, refl, ◌∙◌, ap}
use native.Mathlib.Omega.{arith}
use lib.ListN.{length, replicate}
use lib.Seq.{length-take-le}
use Rattle.std.specs.Prelude.{Ok}
use Rattle.std.proofs.lemmas.List.{take_at}
use Rattle.model.specs.Texts.{ones}
use Rattle.forms.specs.Forms.{sections}
use Rattle.forms.specs.Forms.Form.{field}
use Rattle.laws.proofs.Exits.{exit}
use Rattle.plan_text.proofs.Jobs.{ones_most}
use Rattle.plan_text.proofs.Plans.{Stands, stands_first, stands_on, stands_stuck, orders, jobs_read, jobs_stuck, lo_read, lo_stuck, hi_read, hi_stuck, ended, more_stands}
use Rattle.plan_text.proofs.plan.Goals as goal
use Rattle.plan_text.proofs.plan.Goals.{After-jobs}

few : (c : After-jobs) → c.from-count.result ≤ 64
few c = omega (arith, c.from-count.ensures, c.in_ok-number.ensures.within)

counted : (c : After-jobs) → Stands c.args.text.now c.number.new.self (sections c.from-count.result)
counted c =
    rw c.from-count.ensures (stands_on _ _ (field 1 64 10) sections (stands_first c.args.text) _ _ _ c.number.ensures.read _ c.in_ok-number.was)

as_many : (c : After-jobs) → length c.jobs.new.jobs ≡ c.from-count.result
as_many c = c.jobs.auto.jobs ∙ length-take-le _ _ (few c)

pub returns-in_err-number : goal.returns-in_err-number
returns-in_err-number c =
    rw (exit _ _ c.from_residual.ensures.1) (stands_stuck _ _ (field 1 64 10) sections (stands_first c.args.text) _ _ _ c.number.ensures.read _ c.in_err-number.was)

pub returns-in_err-jobs : goal.returns-in_err-jobs
returns-in_err-jobs c =
    let b = (goal.at.returns-in_err-jobs c).After-jobs in
    rw (exit _ _ c.from_residual-in_err-jobs.ensures.1) (jobs_stuck _ _ _ (counted b) _ (length-take-le _ _ (few b)) _ _ _ c.jobs.ensures _ c.in_err-jobs.was)

listed : (c : After-jobs) (x : Unit {0}) → c.jobs.result ≡ Ok x → Stands c.args.text.now c.jobs.new.self (orders c.from-count.result c.jobs.new.jobs)
listed c x e = jobs_read _ _ _ (counted c) _ (length-take-le _ _ (few c)) _ _ _ c.jobs.ensures x e

pub returns-in_err-lo : goal.returns-in_err-lo
returns-in_err-lo c =
    let b = (goal.at.returns-in_err-lo c).After-jobs in
    rw (exit _ _ c.from_residual-in_err-lo.ensures.1) (lo_stuck _ _ _ _ (listed b _ c.in_ok-jobs.was) _ _ c.order.ensures _ c.in_err-lo.was)

pub order-requires-2 : goal.order-requires-2
order-requires-2 c =
    let b = (goal.at.order-requires-2 c).After-jobs in
    let e : c.hi_jobs.result ≡ ones c.jobs.new.jobs = c.hi_jobs.ensures ∙ ap ones (take_at _ _ _ (as_many b)) in
    omega (arith, e, ones_most c.jobs.new.jobs, as_many b, few b)

pub returns-in_err-hi : goal.returns-in_err-hi
returns-in_err-hi c =
    let b = (goal.at.returns-in_err-hi c).After-jobs in
    let l = lo_read _ _ _ _ (listed b _ c.in_ok-jobs.was) _ _ c.order.ensures _ c.in_ok-lo.was in
    rw (exit _ _ c.from_residual-in_err-hi.ensures.1)
    (hi_stuck _ _ _ _ l _ (c.hi_jobs.ensures ∙ ap ones (take_at _ _ _ (as_many b))) _ _ c.order-2.ensures _ c.in_err-hi.was)

pub returns-in_err-end : goal.returns-in_err-end
returns-in_err-end c =
    let b = (goal.at.returns-in_err-end c).After-jobs in
    let l = lo_read _ _ _ _ (listed b _ c.in_ok-jobs.was) _ _ c.order.ensures _ c.in_ok-lo.was in
    let h = hi_read _ _ _ _ l _ (c.hi_jobs.ensures ∙ ap ones (take_at _ _ _ (as_many b))) _ _ c.order-2.ensures _ c.in_ok-hi.was in
    rw (exit _ _ c.from_residual-in_err-end.ensures.1) (more_stands _ _ _ h _ c.end.ensures _ c.in_err-end.was)

pub returns : goal.returns
returns c =
    let b = (goal.at.returns c).After-jobs in
    let l = lo_read _ _ _ _ (listed b _ c.in_ok-jobs.was) _ _ c.order.ensures _ c.in_ok-lo.was in
    let h = hi_read _ _ _ _ l _ (c.hi_jobs.ensures ∙ ap ones (take_at _ _ _ (as_many b))) _ _ c.order-2.ensures _ c.in_ok-hi.was in
    ended _ _ _ h _ c.end.ensures _ c.in_ok-end.was c.jobs.new.jobs _ _ refl _ (as_many b) _ (ap (replicate 64) c.no_job-jobs.ensures)
