-- `write_slots` meets its contract: refused, it leaves the room as it is; else the run's slots are written there.
use Rattle.std.proofs.Common.{rules}
use mathlib.Core.Path.{◌∙◌}
use Rattle.laws.proofs.Exits.{exit}
use Rattle.checks.proofs.Checked.{passes}
use Rattle.columns.specs.Columns.{Prepared}
use Rattle.runs.proofs.RangeLaws.{ready}
use Rattle.runs.proofs.SlotAnswers.{refused_first, refused_room, after_checks, kept, made}
use Rattle.runs.proofs.write_slots.Goals as goal

pub returns-in_err-check : goal.returns-in_err-check
returns-in_err-check c =
    let e = refused_first _ _ _ _ c.in_err-check.ensures in
    record { answer = exit _ _ c.from_residual.ensures.1 ∙ e; written = kept _ _ _ _ e }

pub returns-in_err-check_room : goal.returns-in_err-check_room
returns-in_err-check_room c =
    let e = refused_room _ _ _ c.in_ok-check.ensures _ c.in_err-check_room.ensures in
    record { answer = exit _ _ c.from_residual-in_err-check_room.ensures.1 ∙ e; written = kept _ _ _ _ e }

pub invariant_of-given : goal.invariant_of-given
invariant_of-given c =
    let k : Prepared c.args.s.now c.columns_of-k.result = ready _ _ c.in_ok-check.ensures c.columns_of-k.ensures (search rules) (search rules) in
    record { few = k.testable.full.n }

pub in_range-requires : goal.in_range-requires
in_range-requires c =
    let k : Prepared c.args.s.now c.columns_of-k.result = ready _ _ c.in_ok-check.ensures c.columns_of-k.ensures (search rules) (search rules) in
    k.testable

pub returns-in_err-in_range : goal.returns-in_err-in_range
returns-in_err-in_range c =
    let k : Prepared c.args.s.now c.columns_of-k.result = ready _ _ c.in_ok-check.ensures c.columns_of-k.ensures (search rules) (search rules) in
    let e = c.in_err-in_range.ensures ∙ after_checks _ _ k _ _ c.in_ok-check.ensures c.in_ok-check_room.ensures in
    record { answer = exit _ _ c.from_residual-in_err-in_range.ensures.1 ∙ e; written = kept _ _ _ _ e }

pub span_in-requires : goal.span_in-requires
span_in-requires c = passes _ c.in_ok-check.ensures

pub returns : goal.returns
returns c =
    let k : Prepared c.args.s.now c.columns_of-k.result = ready _ _ c.in_ok-check.ensures c.columns_of-k.ensures (search rules) (search rules) in
    let e = c.in_ok-in_range.ensures ∙ after_checks _ _ k _ _ c.in_ok-check.ensures c.in_ok-check_room.ensures in
    record {
      answer = e;
      written = made _ _ k _ _ c.in_ok-check.ensures c.in_ok-check_room.ensures _ _ e c.span_in.ensures c.to_span.ensures.written;
    }
