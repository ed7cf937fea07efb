use native.Mathlib.Omega.{arith}
use mathlib.Core.Path.{sym}
use Rattle.model.specs.Scenarios.{zeros}
use Rattle.tables.proofs.Turns.{read_length, first-turn, next-turn, last_turn, lo_countable, hi_countable}
use Rattle.tables.proofs.table.hi_table.Goals as goal

pub slice_bounds-slot-items-end : goal.slice_bounds-slot-items-end
slice_bounds-slot-items-end c = sym (read_length _ _ _ c.requires.span c.requires.lo)

pub loop-t-init : goal.loop-t-init
unfolding zeros
loop-t-init c = first-turn _ _

pub count-requires : goal.count-requires
count-requires c = lo_countable _ _ _ _ _ c.loop-t.invariant _ (omega (arith, read_length _ _ _ c.requires.span c.requires.lo))

pub count-requires-in-loop-t : goal.count-requires-in-loop-t
count-requires-in-loop-t c = hi_countable _ _ _ _ _ c.loop-t.invariant _ (omega (arith, read_length _ _ _ c.requires.span c.requires.lo))

pub loop-t-preserved : goal.loop-t-preserved
loop-t-preserved c =
    let n = read_length _ _ _ c.requires.span c.requires.lo in
    next-turn _ _ _ _ _ c.loop-t.invariant _ _ _ _ c.requires.lo (omega (arith, n)) (omega (arith, n)) c.pick-j.ensures c.count.ensures
    c.count-in-loop-t.ensures

pub returns : goal.returns
returns c =
    let n = read_length _ _ _ c.requires.span c.requires.lo in
    rw c.requires.span (last_turn _ _ _ _ _ c.loop-t.invariant (omega (arith, n)))
