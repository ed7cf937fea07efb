-- `times` meets its contract: of two HI jobs, one is done at the other's turn exactly if it does not end after it.
use Prim.Native.Nat.{◌+◌, ◌-◌}
use mathlib.Core.Path.{◌≡◌, refl, sym, ◌∙◌, ap}
use mathlib.Core.Bool.{cond, ◌&&◌, ◌||◌}
use native.Mathlib.Omega.{arith}
use native.Mathlib.Numerals.{add-one}
use denote.Enum.Bare.{sameb}
use lib.Dec.{eqb, ltb}
use lib.ListN.{length, get_or, set}
use borrow.Author.Tests.{eq-eqb, ne_eqb}
use Rattle.std.proofs.lemmas.List.{length-append}
use Rattle.laws.proofs.Fill.{up_to, up_to_zero, up_to-more}
use Rattle.model.specs.contracts.Level.{the_type}
use Rattle.model.specs.declared.Job.{Job}
use Rattle.model.specs.declared.Level.TheVariants.{Hi as HiLevel}
use Rattle.model.specs.declared.Scenario.TheVariants.{Hi}
use Rattle.model.specs.Sets.{view}
use Rattle.model.specs.Scenarios.{times_of}
use Rattle.verdicts.specs.Tests.{time_in}
use Rattle.verdicts.proofs.Entries.{part_e, critical_is, hi_is, lo_is}
use Rattle.verdicts.proofs.Pairs.{pair-turn, pairs-end}
use Rattle.verdicts.proofs.Raised.{own_in, time_is, times-hi, times_lo}
use Rattle.verdicts.proofs.published.Test.times.Goals as goal
use Rattle.verdicts.proofs.published.Test.times.Goals.{then-eq+then-i-own, then-eq+else-i-own, else-eq, then-raised, else-raised}

pub returns-in_default : goal.returns-in_default
returns-in_default c = times_lo _ _ _ c.in_default.is c.lo_times.ensures

pub overflow_sub-turn : goal.overflow_sub-turn
overflow_sub-turn c = (part_e _ _ (own_in _ _ _ _ c.requires c.in-Hi.is c.from-own.ensures).0).0

pub bounds-self-own : goal.bounds-self-own
bounds-self-own c =
    let p = part_e _ _ (own_in _ _ _ _ c.requires c.in-Hi.is c.from-own.ensures).0 in
    let f = c.args.self.now.few in omega (arith, p, f)

pub loop-i-init : goal.loop-i-init
loop-i-init c = sym (up_to_zero _ 0)

pub loop-i-preserved : goal.loop-i-preserved
loop-i-preserved c =
    let t = c.args.self.now in
    let o = c.from-own.result in
    let turn = get_or t.ends (o - 1) 0 in
    let n = length c.loop-i.yielded in
    let b = c.eq.result in
    let hi = c.in-Some.job.now.hi in
    let lo = c.in-Some.job.now.lo in
    let j = c.members.ensures.jobs in
    let f = t.few in
    let p = pair-turn c.members.result.now t.ends c.into_iter-i-iterator.result c.loop-i.i-iterator c.next.new.self (cc) (cc) (cc)
    c.loop-i.yielded c.loop-i.yielded_by c.next.result c.next.ensures.steps (c.in-Some.i, (c.in-Some.job, c.in-Some.field-0-1-1)) c.in-Some.is in
    let test : c.if-eq.raised ≡ (b && (eqb (c.in-Some.i + 1) o || ltb turn c.in-Some.field-0-1-1.now)) =
    elim c.if-eq.branch [
      | then-eq+then-i-own w ↦ w.raised-is ∙ sym (rw (w.if-eq.true, eq-eqb (c.in-Some.i + 1) o w.if-i-own.true) refl)
      | then-eq+else-i-own w ↦ w.raised-is ∙ sym (rw (w.if-eq.true, ne_eqb (c.in-Some.i + 1) o w.if-i-own.false) refl)
      | else-eq w ↦ w.raised-is ∙ sym (rw w.if-eq.false refl)
    ] in
    let value : c.if-raised.times ≡ cond c.if-eq.raised hi lo =
    elim c.if-raised.branch [
      | then-raised w ↦ w.times-is ∙ sym (rw w.if-raised.true refl)
      | else-raised w ↦ w.times-is ∙ sym (rw w.if-raised.false refl)
    ] in
    let here : (b && (eqb (n + 1) o || ltb turn (get_or t.ends n 0))) ≡ c.if-eq.raised =
    sym (test ∙ ap (λ m. b && (eqb (m + 1) o || ltb turn c.in-Some.field-0-1-1.now)) p.place ∙ ap (λ m. b && (eqb (n + 1) o || ltb turn m)) p.finish) in
    let time : cond c.if-eq.raised hi lo ≡ time_in (view t.set) o (n + 1) =
    time_is t.set t.good t.ends t.ends_are o (own_in _ _ _ _ c.requires c.in-Hi.is c.from-own.ensures) n (omega (arith, p.below)) b
    (critical_is _ _ j n (omega (arith, p.below)) _ (c.eq.ensures ∙ ap (λ (x : Job). sameb the_type x.level HiLevel) p.job))
    hi lo (ap (λ (x : Job). x.hi) p.job ∙ hi_is _ _ j n (omega (arith, p.below))) (ap (λ (x : Job). x.lo) p.job ∙ lo_is _ _ j n (omega (arith, p.below)))
    c.if-eq.raised here in
    ap (λ m. set c.loop-i.times m c.if-raised.times) p.place
    ∙ up_to-more _ n _ _ 0 c.loop-i.invariant (omega (arith, p.below)) (value ∙ time ∙ ap (time_in _ _) (add-one _))
    ∙ ap (λ m. up_to m (time_in (view t.set) o) 0) (sym (length-append c.loop-i.yielded _))

pub returns : goal.returns
returns c =
    let n = pairs-end c.members.result.now c.args.self.now.ends c.into_iter-i-iterator.result c.loop-i.i-iterator c.next.new.self (cc) (cc) (cc)
    c.loop-i.yielded c.loop-i.yielded_by c.next.result c.next.ensures.steps c.in-None.is in
    times-hi _ _ _ (omega (arith, n)) _ c.loop-i.invariant
    ∙ sym (ap (times_of (view c.args.self.now.set)) (c.in-Hi.is ∙ ap Hi (sym c.from-own.ensures)))
