use Prim.Native.Nat.{◌≤◌}
use mathlib.Core.Path.{sym, ◌∙◌, ap, subst}
use native.Mathlib.Omega.{arith}
use denote.Enum.Bare.{sameb}
use Rattle.std.proofs.lemmas.List.{length-append}
use Rattle.model.specs.contracts.Level.{the_type}
use Rattle.model.specs.declared.Job.{Job}
use Rattle.model.specs.declared.Level.TheVariants.{Hi}
use Rattle.measures.specs.Measures.{missed_by}
use Rattle.verdicts.proofs.Entries.{critical_is, deadline_is}
use Rattle.verdicts.proofs.Found.{Left, turn_start, turn_pass, turn_skip, turn_end, turn-miss}
use Rattle.verdicts.proofs.Pairs.{pair-turn, pairs-end}
use Rattle.model.specs.Sets.{view}
use Rattle.model.specs.Scenarios.{times_of}
use Rattle.verdicts.proofs.Search.{Passed, is_scenario, passed_more, missed-turn}
use Rattle.verdicts.proofs.published.Test.search.Goals as goal
use Rattle.verdicts.proofs.published.Test.search.Goals.{then-loop-x-test+in-Some+in-Some-2+then-misses, else-loop-x-test, then-loop-x-test+else-x-x-end, in-Some+in-None, in_default}

pub loop-x-init : goal.loop-x-init
loop-x-init c = turn_start _ c.args.self.now.good _ c.args.self.now.ends_are

pub run-ran-requires : goal.run-ran-requires
run-ran-requires c = is_scenario _ _ (omega arith) _ c.in-Some.ensures

pub loop-i-preserved : goal.loop-i-preserved
loop-i-preserved c =
    let g = c.args.self.now.good in
    let j = c.members.ensures.jobs in
    let p = pair-turn c.members.result.now c.run-ran.result.finishes c.into_iter-i-iterator.result c.loop-i.i-iterator c.next.new.self (cc) (cc) (cc)
    c.loop-i.yielded c.loop-i.yielded_by c.next.result c.next.ensures.steps (c.in-Some-2.i, (c.in-Some-2.job, c.in-Some-2.field-0-1-1)) c.in-Some-2.is in
    subst (λ n. Passed (view c.args.self.now.set) (times_of (view c.args.self.now.set) c.in-Some.scenario) n) (sym (length-append c.loop-i.yielded _))
    (passed_more _ g _ _ c.loop-i.invariant
    (missed-turn _ g _ _ _ _ _ (omega (arith, p.below)) c.run-ran.ensures _
    (critical_is _ _ j _ (omega (arith, p.below)) _ (c.eq.ensures ∙ ap (λ (x : Job). sameb the_type x.level Hi) p.job)) _
    (ap (λ (x : Job). x.deadline) p.job ∙ deadline_is _ _ j _ (omega (arith, p.below)))
    (c.misses.ensures ∙ ap (λ w. missed_by c.eq.result c.in-Some-2.job.now.deadline w c.run-ran.result.switch) p.finish) c.if-misses.false))

pub loop-x-preserved : goal.loop-x-preserved
loop-x-preserved c =
    let g = c.args.self.now.good in
    let q : c.loop-x.x ≤ c.args.self.now.set.count = omega arith in
    elim c.match-scenario.branch [
      | in-Some+in-None w ↦
          let p = w.in-Some.ensures in
          let n = pairs-end w.members.result.now w.run-ran.result.finishes w.into_iter-i-iterator.result w.loop-i.i-iterator w.next.new.self (cc) (cc) (cc)
          w.loop-i.yielded w.loop-i.yielded_by w.next.result w.next.ensures.steps w.in-None.is in
          turn_pass _ g _ _ c.loop-x.invariant _ p q _ w.run-ran.ensures _ w.loop-i.invariant _
          (omega (arith, n)) (w.worsts-is ∙ w.raise.ensures)
      | in_default w ↦ turn_skip _ g _ _ c.loop-x.invariant _ w.worsts-is w.in_default.ensures q
    ]

-- where the search leaves its loops, by the break or by the scenarios' end
left : (c : goal.Left-loop-x) → Left c.args.self.now.set c.loop-x-test.verdict c.loop-x-test.worsts
left c =
    let g = c.args.self.now.good in
    elim c.loop-x-test.branch [
      | then-loop-x-test+in-Some+in-Some-2+then-misses w ↦
          let q : c.loop-x.x ≤ c.args.self.now.set.count = omega arith in
          let j = w.members.ensures.jobs in
          let p = pair-turn w.members.result.now w.run-ran.result.finishes w.into_iter-i-iterator.result w.loop-i.i-iterator w.next.new.self (cc) (cc) (cc)
          w.loop-i.yielded w.loop-i.yielded_by w.next.result w.next.ensures.steps (w.in-Some-2.i, (w.in-Some-2.job, w.in-Some-2.field-0-1-1)) w.in-Some-2.is in
          turn-miss _ g _ _ c.loop-x.invariant _ w.in-Some.ensures q _ w.run-ran.ensures _ w.loop-i.invariant
          _ (omega (arith, p.below)) _ (critical_is _ _ j _ (omega (arith, p.below)) _ (w.eq.ensures ∙ ap (λ (x : Job). sameb the_type x.level Hi) p.job)) _
          (ap (λ (x : Job). x.deadline) p.job ∙ deadline_is _ _ j _ (omega (arith, p.below)))
          (w.misses.ensures ∙ ap (λ z. missed_by w.eq.result w.in-Some-2.job.now.deadline z w.run-ran.result.switch) p.finish) w.if-misses.true
          _ _ _ _ p.place p.finish w.verdict-is
      | else-loop-x-test w ↦ absurd (omega arith)
      | then-loop-x-test+else-x-x-end w ↦
          let q : c.loop-x.x ≤ c.args.self.now.set.count = omega arith in
          elim w.match-scenario.branch [
            | in-Some+in-None y ↦
                let n = pairs-end y.members.result.now y.run-ran.result.finishes y.into_iter-i-iterator.result y.loop-i.i-iterator y.next.new.self (cc) (cc) (cc)
                y.loop-i.yielded y.loop-i.yielded_by y.next.result y.next.ensures.steps y.in-None.is in
                let t = turn_pass _ g _ _ c.loop-x.invariant _ y.in-Some.ensures q _ y.run-ran.ensures _ y.loop-i.invariant
                _ (omega (arith, n)) (w.worsts-is ∙ y.worsts-is ∙ y.raise.ensures) in
                turn_end _ g _ _ t (omega arith) _ w.verdict-is
            | in_default y ↦
                let t = turn_skip _ g _ _ c.loop-x.invariant _ (w.worsts-is ∙ y.worsts-is) y.in_default.ensures q in
                turn_end _ g _ _ t (omega arith) _ w.verdict-is
          ]
    ]

pub answer-requires : goal.answer-requires
answer-requires c = let l = left c in record { verdict_is = l.0; worsts_are = l.1 }
