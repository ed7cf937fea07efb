-- `to_span` meets its contract. The invariant: the progress is that of the run at instant t, and the table, if it is long enough, is filled so far.
use Prim.Native.Nat.{◌≤◌}
use mathlib.Core.Path.{◌≡◌}
use lib.ListN.{length}
use Rattle.model.specs.Runs.{slot_at}
use Rattle.columns.specs.Columns.{view_of}
use Rattle.runs.specs.Engine.{progress_at}
use Rattle.runs.proofs.Room.{filled}
use Rattle.runs.proofs.engine.Run.to_span.Given as goal

abbrev pub invariant-loop-t : goal.invariant-loop-t
invariant-loop-t l =
    (l.g ≡ progress_at (view_of l.self.k.now).policy l.self.k.now.n l.self.times.now l.t)
    × (l.span ≤ length l.initial.table → l.table ≡ filled (slot_at (view_of l.self.k.now).policy l.self.times.now) l.t l.initial.table)
