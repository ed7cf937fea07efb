-- `executed` meets its contract: refused as the checks say, refused where a time lies outside its range, or what the run ends with.
use Rattle.std.proofs.Common.{rules}
use mathlib.Core.Path.{refl, ◌∙◌, ap}
use Rattle.model.specs.Refusals.{good}
use Rattle.laws.proofs.Exits.{exit}
use Rattle.checks.proofs.Checked.{passes}
use Rattle.columns.specs.Columns.{Prepared}
use Rattle.runs.specs.Engine.{progress_at}
use Rattle.runs.specs.Ranges.{answer_of}
use Rattle.runs.proofs.RangeLaws.{ready, ran-refused, ran-outside, ran-found}
use Rattle.runs.proofs.executed.Goals as goal

pub returns-in_err-check : goal.returns-in_err-check
unfolding answer_of
returns-in_err-check c = ap answer_of (exit _ _ c.from_residual.ensures.1) ∙ ran-refused _ _ _ c.in_err-check.ensures

pub invariant_of-run : goal.invariant_of-run
invariant_of-run c =
    let k : Prepared c.args.s.now c.columns_of-k.result = ready _ _ c.in_ok-check.ensures c.columns_of-k.ensures (search rules) (search rules) in
    record { few = k.testable.full.n }

pub in_range-requires : goal.in_range-requires
in_range-requires c =
    let k : Prepared c.args.s.now c.columns_of-k.result = ready _ _ c.in_ok-check.ensures c.columns_of-k.ensures (search rules) (search rules) in
    k.testable

pub returns-in_err-in_range : goal.returns-in_err-in_range
unfolding answer_of
returns-in_err-in_range c =
    let k : Prepared c.args.s.now c.columns_of-k.result = ready _ _ c.in_ok-check.ensures c.columns_of-k.ensures (search rules) (search rules) in
    ap answer_of (exit _ _ c.from_residual-in_err-in_range.ensures.1) ∙ ran-outside _ _ k _ _ c.in_err-in_range.ensures

pub span_in-requires : goal.span_in-requires
span_in-requires c = passes _ c.in_ok-check.ensures

pub returns : goal.returns
unfolding answer_of good
returns c =
    let k : Prepared c.args.s.now c.columns_of-k.result = ready _ _ c.in_ok-check.ensures c.columns_of-k.ensures (search rules) (search rules) in
    ran-found _ _ k _ c.in_ok-in_range.ensures _ _ refl (c.to_span-switch.ensures.run ∙ ap (progress_at _ _ _) c.span_in.ensures)
