use Prim.Native.Nat.{max}
use mathlib.Core.Path.{sym, ◌∙◌, ap}
use mathlib.Core.Bool.{cond}
use native.Mathlib.Omega.{arith}
use denote.Enum.Bare.{sameb}
use lib.ListN.{length, get_or, set}
use Rattle.std.proofs.lemmas.List.{length-append}
use Rattle.laws.proofs.Fill.{mixed}
use Rattle.model.specs.contracts.Level.{the_type}
use Rattle.model.specs.declared.Job.{Job}
use Rattle.model.specs.declared.Level.TheVariants.{Hi}
use Rattle.model.specs.Lists.{at}
use Rattle.model.specs.Sets.{view}
use Rattle.verdicts.specs.Rows.{worse_in}
use Rattle.verdicts.proofs.Entries.{critical_is}
use Rattle.verdicts.proofs.Pairs.{pair-turn, pairs-end}
use Rattle.verdicts.proofs.RowLaws.{raise_start, raise-more, raise_all}
use Rattle.verdicts.proofs.published.Test.raise.Goals as goal

pub loop-i-init : goal.loop-i-init
loop-i-init c = raise_start _ c.args.self.now.good _ _ (omega arith)

pub loop-i-preserved : goal.loop-i-preserved
loop-i-preserved c =
    let w = c.args.worsts.now in
    let f = c.args.finishes.now in
    let l = c.loop-i.worsts in
    let n = length c.loop-i.yielded in
    let p = pair-turn c.members.result.now f c.into_iter-i-iterator.result c.loop-i.i-iterator c.next.new.self (cc) (cc) (cc)
    c.loop-i.yielded c.loop-i.yielded_by c.next.result c.next.ensures.steps (c.in-Some.i, (c.in-Some.job, c.in-Some.field-0-1-1)) c.in-Some.is in
    ap (λ m. set l m c.worse.result) p.place
    ∙ raise-more _ c.args.self.now.good w f l _ _ _ c.loop-i.invariant (omega (arith, p.below))
    (critical_is _ _ c.members.ensures.jobs _ (omega (arith, p.below)) _ (c.eq.ensures ∙ ap (λ (x : Job). sameb the_type x.level Hi) p.job))
    (c.worse.ensures ∙ ap (λ m. cond c.eq.result (max (get_or l m 0) c.in-Some.field-0-1-1.now) (get_or l m 0)) p.place
    ∙ ap (λ m. cond c.eq.result (max (get_or l n 0) m) (get_or l n 0)) p.finish)
    ∙ ap (λ m. mixed m (worse_in (view c.args.self.now.set) w f) (λ j. at w j 0)) (sym (length-append c.loop-i.yielded _))

pub returns : goal.returns
returns c =
    let n = pairs-end c.members.result.now c.args.finishes.now c.into_iter-i-iterator.result c.loop-i.i-iterator c.next.new.self (cc) (cc) (cc)
    c.loop-i.yielded c.loop-i.yielded_by c.next.result c.next.ensures.steps c.in-None.is in
    raise_all _ c.args.self.now.good _ _ _ _ c.loop-i.invariant (omega (arith, n))
