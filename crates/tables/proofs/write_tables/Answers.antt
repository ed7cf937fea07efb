-- `write_tables` meets its contract: refused, it leaves both rooms as they are; else one is given the slots of scenario 0, and the other the HI table
-- made from them.
use Rattle.std.proofs.Common.{rules}
use mathlib.Core.Path.{◌∙◌}
use Rattle.laws.proofs.Exits.{exit}
use Rattle.columns.specs.Columns.{Prepared}
use Rattle.runs.proofs.RangeLaws.{ready}
use Rattle.tables.proofs.Answers.{refused_first, after_set, both_fit, lo_made, hi_ready, kept, made}
use Rattle.tables.proofs.write_tables.Goals as goal

pub returns-in_err-check : goal.returns-in_err-check
returns-in_err-check c =
    let e = refused_first _ _ _ _ c.in_err-check.ensures in
    let k = kept _ _ _ _ e in
    record { answer = exit _ _ c.from_residual.ensures.1 ∙ e; normal = k.0; critical = k.1 }

pub returns-in_err-check_room : goal.returns-in_err-check_room
returns-in_err-check_room c =
    let e = c.in_err-check_room.ensures ∙ after_set _ _ _ c.in_ok-check.ensures in
    let k = kept _ _ _ _ e in
    record { answer = exit _ _ c.from_residual-in_err-check_room.ensures.1 ∙ e; normal = k.0; critical = k.1 }

pub hi_table-requires : goal.hi_table-requires
hi_table-requires c =
    let k : Prepared c.args.s.now c.columns_of-k.result = ready _ _ c.in_ok-check.ensures c.columns_of-k.ensures (search rules) (search rules) in
    let fit = both_fit _ _ _ c.in_ok-check_room.ensures in
    let h = hi_ready _ _ k _ _ _ _ (lo_made _ _ k _ _ c.slots.ensures.written fit.0) c.span_of-span.ensures fit.1 in
    record { span = h.0; bound = h.1; room = h.2; lo = h.3 }

pub returns : goal.returns
returns c =
    let k : Prepared c.args.s.now c.columns_of-k.result = ready _ _ c.in_ok-check.ensures c.columns_of-k.ensures (search rules) (search rules) in
    let fit = both_fit _ _ _ c.in_ok-check_room.ensures in
    let e = c.in_ok-check_room.ensures ∙ after_set _ _ _ c.in_ok-check.ensures in
    let m = made _ _ _ e in
    record {
      answer = e;
      normal = lo_made _ _ k _ _ c.slots.ensures.written fit.0 ∙ m.0;
      critical = c.hi_table.ensures ∙ rw (c.span_of-span.ensures, k.same) m.1;
    }
