use mathlib.Core.Path.{◌∙◌}
use native.Mathlib.Omega.{arith}
use Rattle.verdicts.proofs.Entries.{some}
use Rattle.verdicts.proofs.Scenarios.{row-ran}
use Rattle.verdicts.proofs.Search.{is_scenario}
use Rattle.verdicts.proofs.RowLaws.{worsts-start, worsts-more, worsts_keep, worsts-end}
use Rattle.verdicts.proofs.published.Test.worsts.Goals as goal
use Rattle.verdicts.proofs.published.Test.worsts.Goals.{in-Some, in_default}

pub loop-x-init : goal.loop-x-init
loop-x-init c = worsts-start _ c.args.self.now.good _ c.args.self.now.ends_are

pub run-requires : goal.run-requires
run-requires c = is_scenario _ _ c.loop-x-test.true _ c.in-Some.ensures

pub loop-x-preserved : goal.loop-x-preserved
loop-x-preserved c =
    let g = c.args.self.now.good in
    elim c.match-scenario.branch [
      | in-Some w ↦ w.worsts-is ∙ worsts-more _ g _ _ _ _ c.loop-x.invariant c.loop-x-test.true _ w.in-Some.ensures (row-ran _ _ _ w.run.ensures) w.raise.ensures
      | in_default w ↦ w.worsts-is ∙ c.loop-x.invariant ∙ worsts_keep _ g _ w.in_default.ensures
    ]

pub returns : goal.returns
returns c = absurd (omega (arith, some _ c.args.self.now.good))

pub returns-after-scenario : goal.returns-after-scenario
returns-after-scenario c =
    let g = c.args.self.now.good in
    elim c.match-scenario.branch [
      | in-Some w ↦
          w.worsts-is ∙ worsts-more _ g _ _ _ _ c.loop-x.invariant c.loop-x-test.true _ w.in-Some.ensures (row-ran _ _ _ w.run.ensures) w.raise.ensures
          ∙ worsts-end _ g _ (omega arith)
      | in_default w ↦ w.worsts-is ∙ c.loop-x.invariant ∙ worsts_keep _ g _ w.in_default.ensures ∙ worsts-end _ g _ (omega arith)
    ]
