-- `hi_table` meets its contract. The invariant: the first t entries are the slots of the HI table, and the slots had are those before t.
use Rattle.tables.proofs.Turns.{Turn}
use Rattle.tables.proofs.table.hi_table.Given as goal

abbrev pub invariant-loop-t : goal.invariant-loop-t
invariant-loop-t l = Turn l.k l.initial.table l.table l.had l.t
