use mathlib.Core.Path.{◌∙◌}
use native.Mathlib.Omega.{arith}
use Rattle.model.specs.Scenarios.{zeros}
use Rattle.verdicts.proofs.Scenarios.{row-ran}
use Rattle.verdicts.proofs.Search.{is_scenario}
use Rattle.verdicts.proofs.RowLaws.{rows_start, rows-turn, rows_keep, rows_end}
use Rattle.verdicts.proofs.published.Test.rows.Goals as goal
use Rattle.verdicts.proofs.published.Test.rows.Goals.{in-Some, in_default}

pub loop-x-init : goal.loop-x-init
unfolding zeros
loop-x-init c = rows_start _ c.args.self.now.good

pub run-requires : goal.run-requires
run-requires c = is_scenario _ _ c.loop-x-test.true _ c.in-Some.ensures

pub loop-x-preserved : goal.loop-x-preserved
loop-x-preserved c =
    let g = c.args.self.now.good in
    elim c.match-scenario.branch [
      | in-Some w ↦ w.rows-is ∙ rows-turn _ g _ _ _ _ c.loop-x.invariant c.loop-x-test.true w.in-Some.ensures (row-ran _ _ _ w.run.ensures)
      | in_default w ↦ w.rows-is ∙ c.loop-x.invariant ∙ rows_keep _ g _ w.in_default.ensures
    ]

pub returns-after-scenario : goal.returns-after-scenario
returns-after-scenario c =
    let g = c.args.self.now.good in
    elim c.match-scenario.branch [
      | in-Some w ↦
          w.rows-is ∙ rows-turn _ g _ _ _ _ c.loop-x.invariant c.loop-x-test.true w.in-Some.ensures (row-ran _ _ _ w.run.ensures) ∙ rows_end _ g _ (omega arith)
      | in_default w ↦ w.rows-is ∙ c.loop-x.invariant ∙ rows_keep _ g _ w.in_default.ensures ∙ rows_end _ g _ (omega arith)
    ]
