use mathlib.Core.Path.{sym, ◌∙◌, ap}
use mir.Syntax.{w32}
use mir.Facts.{to_z-of_z}
use native.Mathlib.Omega.{arith}
use mir.Val.{to_z, of_z}
use lib.IntN.{ℤ, pos, ◌-ℤ◌}
use lib.ListN.{set}
use Rattle.std.proofs.lemmas.List.{length-append}
use Rattle.laws.proofs.Fill.{up_to, up_to_zero}
use Rattle.model.specs.declared.Job.{Job}
use Rattle.model.specs.Sets.{view}
use Rattle.model.specs.Scenarios.{margin}
use Rattle.verdicts.proofs.Entries.{deadline_is}
use Rattle.verdicts.proofs.Pairs.{pair-turn, pairs-end}
use Rattle.verdicts.proofs.RowLaws.{margins-more, margins_all}
use Rattle.verdicts.proofs.published.Test.margins.Goals as goal

pub loop-i-init : goal.loop-i-init
loop-i-init c = sym (up_to_zero _ (pos 0))

pub loop-i-preserved : goal.loop-i-preserved
loop-i-preserved c =
    let p = pair-turn c.members.result.now c.worsts-worsts.result c.into_iter-i-iterator.result c.loop-i.i-iterator c.next.new.self (cc) (cc) (cc)
    c.loop-i.yielded c.loop-i.yielded_by c.next.result c.next.ensures.steps (c.in-Some.i, (c.in-Some.job, c.in-Some.field-0-1-1)) c.in-Some.is in
    ap (λ m. set {A = ℤ} c.loop-i.margins m (to_z w32 (of_z w32 c.margin_of.result))) p.place
    ∙ margins-more _ c.args.self.now.good _ _ _ _ _ c.loop-i.invariant (omega (arith, p.below)) c.worsts-worsts.ensures
    (ap (λ (x : Job). x.deadline) p.job ∙ deadline_is _ _ c.members.ensures.jobs _ (omega (arith, p.below)))
    (to_z-of_z {w = w32} {z = c.margin_of.result} (record { sfits = c.margin_of.type_inv }) ∙ c.margin_of.ensures
    ∙ ap (λ w. pos c.in-Some.job.now.deadline -ℤ pos w) p.finish)
    ∙ ap (λ m. up_to m (margin (view c.args.self.now.set)) (pos 0)) (sym (length-append c.loop-i.yielded _))

pub returns : goal.returns
returns c =
    let n = pairs-end c.members.result.now c.worsts-worsts.result c.into_iter-i-iterator.result c.loop-i.i-iterator c.next.new.self (cc) (cc) (cc)
    c.loop-i.yielded c.loop-i.yielded_by c.next.result c.next.ensures.steps c.in-None.is in
    margins_all _ c.args.self.now.good _ _ c.loop-i.invariant (omega (arith, n))
