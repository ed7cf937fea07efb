-- Given bytes of the text, one after the other.
--   byte-ends, byte_stops, byte-goes  == the text ends; the byte is another; it is this one
--   stuck-before, goes_on             == two parts in a row: the first is stuck; the second goes on where it leads
-- Assumes nothing.
use Prim.Native.Nat.{ℕ, ◌+◌, ◌≤◌, ◌<◌}
use mathlib.Core.Path.{◌≡◌, ◌∙◌, ap}
use mathlib.Core.List.{List}
use Rattle.std.specs.Prelude.{Result, Ok, Err}
use native.Mathlib.Omega.{arith}
use borrow.Author.Tests.{eq-eqb, ne_eqb}
use lib.Seq.{drop-length}
use lib.ListN.{length, get_or, drop_of_length-le}
use Rattle.forms.specs.Forms.{Form, scan}
use Rattle.forms.specs.Forms.Form.{byte}
use Rattle.fields.specs.declared.Stuck.{Stuck}
use Rattle.fields.specs.Cursors.{onward, stands, Steps}
use Rattle.fields.proofs.Digits.{here}

module _ (t : List ℕ) (at c : ℕ) where
  pub byte-ends : length t ≤ at → Steps t at (byte c) (Err (record { at = length t }))
  unfolding scan onward stands
  byte-ends h = record { goes = λ f. rw (drop_of_length-le t h, drop-length t); within = omega arith }

  module _ (h : at < length t) where
    pub byte_stops : (get_or t at 0 ≡ c → ⊥) → Steps t at (byte c) (Err (record { at = at }))
    unfolding scan onward stands
    byte_stops n = record { goes = λ f. rw (here t at h, ne_eqb (get_or t at 0) c n); within = omega arith }

    pub byte-goes : get_or t at 0 ≡ c → Steps t at (byte c) (Ok (at + 1))
    unfolding scan onward stands
    byte-goes e = record { goes = λ f. rw (here t at h, eq-eqb (get_or t at 0) c e); within = omega arith }

module _ (t : List ℕ) (at : ℕ) (a b : Form → Form) (r : Result ℕ Stuck) (s : Steps t at a r) where
  pub stuck-before : (d : Stuck) → r ≡ Err d → Steps t at (λ f. a (b f)) (Err d)
  unfolding onward stands
  stuck-before d e = record { goes = λ f. s.goes (b f) ∙ ap (onward t (b f)) e; within = (rw e at s).within }

  pub goes_on : (p : ℕ) (q : Result ℕ Stuck) → r ≡ Ok p → Steps t p b q → Steps t at (λ f. a (b f)) q
  unfolding onward
  goes_on p q e z = record { goes = λ f. s.goes (b f) ∙ ap (onward t (b f)) e ∙ z.goes f; within = z.within }
