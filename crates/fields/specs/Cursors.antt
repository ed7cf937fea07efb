-- What is read at a cursor of the text: a place from which it goes on.
--   piece_at t r         == the piece of the text t that the answer r tells;  reached r: its cursor
--   Found t at part r    == from the cursor on, the answer r is what the definition `part` reads
--   onward t f r         == the scan of what is left, by the form f, where the step r leads;  stands r: its cursor
--   Steps t at part r    == from the cursor on, the step r is what the scan of `part` does, whatever form follows it
use Rattle.std.specs.Prelude.{ℕ, ◌≤◌, ◌≡◌, List, length, drop, Result, Ok, Err}
use Rattle.forms.specs.Forms.{Piece, Form, Scanned, scan}
use Rattle.forms.specs.Forms.Piece.{got, short}
use Rattle.forms.specs.Forms.Scanned.{stuck}
use Rattle.fields.specs.declared.Got.{Got}
use Rattle.fields.specs.declared.Stuck.{Stuck}

unfoldable pub piece_at : List ℕ → Result Got Stuck → Piece
piece_at t (Ok g) = got g.value (drop g.at t)
piece_at t (Err s) = short (drop s.at t)

unfoldable pub reached : Result Got Stuck → ℕ
reached (Ok g) = g.at
reached (Err s) = s.at

pub record Found (t : List ℕ) (at : ℕ) (part : List ℕ → Piece) (r : Result Got Stuck) : Type 0 where
  pub piece : piece_at t r ≡ part (drop at t)
  pub within : reached r ≤ length t

unfoldable pub onward : List ℕ → Form → Result ℕ Stuck → Scanned
onward t f (Ok p) = scan f (drop p t)
onward t f (Err s) = stuck (drop s.at t)

unfoldable pub stands : Result ℕ Stuck → ℕ
stands (Ok p) = p
stands (Err s) = s.at

pub record Steps (t : List ℕ) (at : ℕ) (part : Form → Form) (r : Result ℕ Stuck) : Type 0 where
  pub goes : (f : Form) → scan (part f) (drop at t) ≡ onward t f r
  pub within : stands r ≤ length t
