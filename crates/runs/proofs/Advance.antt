-- A run over the columns, slot by slot to the span.
--   can_step       == the progress can be stepped
--   run-next       == the step is the progress at the next instant;  written: its slot in the room lent
-- Assumes nothing.
use Prim.Native.Nat.{ℕ, ◌+◌, ◌<◌}
use mathlib.Core.Path.{◌≡◌, refl, ◌∙◌, ap}
use mathlib.Core.List.{List}
use native.Mathlib.Numerals.{add-one}
use lib.ListN.{length, set}
use Rattle.columns.specs.declared.Columns.{Columns}
use Rattle.runs.specs.declared.engine.Progress.{Progress}
use Rattle.columns.specs.Columns.{view_of}
use Rattle.runs.specs.Engine.{Steppable, next, progress_at}
use Rattle.model.specs.Runs.{slot_at}
use Rattle.runs.proofs.Progress.{progress_slots, progress_slot, view-part}
use Rattle.runs.proofs.Room.{filled, filled_next}

module _ (k : Columns) (c : List ℕ) (t : ℕ) (g : Progress) (is : g ≡ progress_at (view_of k).policy k.n c t) where
  pub can_step : t < 65535 → Steppable g t
  can_step h = record { instant = h; slots = λ j. rw is (progress_slots (view_of k).policy k.n c t j) }

  pub run-next : (r : Progress) → r ≡ next (view_of k).policy c t g → r ≡ progress_at (view_of k).policy k.n c (t + 1)
  unfolding progress_at
  run-next r e = e ∙ rw (is, add-one) refl

-- the slot of the step just made, in the room lent
pub written : (k : Columns) (c : List ℕ) (t : ℕ) (r : Progress) (e l : List ℕ) (i : ℕ) → r ≡ progress_at (view_of k).policy k.n c (t + 1)
    → t < length e → l ≡ filled (slot_at (view_of k).policy c) t e → i ≡ t
    → set l i r.slot ≡ filled (slot_at (view_of k).policy c) (t + 1) e
written k c t r e l i g h f q =
    let p = (view_of k).policy in
    let y : r.slot ≡ slot_at p c t = ap (λ (u : Progress). u.slot) (rw add-one at g) ∙ progress_slot p k.n c (view-part k) t in
    ap (λ n. set l n r.slot) q ∙ filled_next (slot_at p c) t e l r.slot h f y
