-- What is promised of a piece admits one answer.
--   one_field  == of what is found at a cursor
--   one_step   == of where given bytes, or any other part of a form, lead
-- Assumes nothing.
use Prim.Native.Nat.{ℕ, ◌≤◌}
use mathlib.Core.Path.{◌≡◌, refl, sym, ◌∙◌, ap}
use mathlib.Core.List.{List, [], ◌∷◌, ◌++◌, append-nil}
use Rattle.std.specs.Prelude.{Result, Ok, Err}
use native.Mathlib.Omega.{arith}
use lib.ListN.{length, drop, length-drop}
use Rattle.model.specs.Texts.{no_set}
use Rattle.forms.specs.Forms.{Piece, Form, scan, bytes}
use Rattle.forms.specs.Forms.Form.{done}
use Rattle.forms.specs.Forms.Scanned.{read, stuck}
use Rattle.forms.proofs.Lines.{bytes-scan, bytes_read}
use Rattle.fields.specs.declared.Got.{Got}
use Rattle.fields.specs.declared.Stuck.{Stuck}
use Rattle.fields.specs.Cursors.{piece_at, reached, Found, onward, stands, Steps}

-- a place of the text is known by what is left behind it
same_place : (t : List ℕ) (p q : ℕ) → p ≤ length t → q ≤ length t → drop p t ≡ drop q t → p ≡ q
same_place t p q h k e = omega (arith, length-drop p t, length-drop q t, ap length e)

same-got : (g h : Got) → g.value ≡ h.value → g.at ≡ h.at → g ≡ h
same-got g h a b = λ i. record { value = a i; at = b i }

-- so is a place where it is stuck
same_stuck : (t : List ℕ) (p q : Stuck) → p.at ≤ length t → q.at ≤ length t → drop p.at t ≡ drop q.at t → p ≡ q
same_stuck t p q h k e = λ i. record { at = same_place t p.at q.at h k e i }

pub one_field : (t : List ℕ) (at : ℕ) (part : List ℕ → Piece) (r q : Result Got Stuck) → Found t at part r → Found t at part q → r ≡ q
one_field t at part r q a b = one r q (a.piece ∙ sym b.piece) a.within b.within
  where
    one : (r q : Result Got Stuck) → piece_at t r ≡ piece_at t q → reached r ≤ length t → reached q ≤ length t → r ≡ q
    one (Ok g) (Ok h) e v w =
        unfold piece_at reached in
        let x : g.value ≡ h.value = cc in
        let y : drop g.at t ≡ drop h.at t = cc in
        ap Ok (same-got g h x (same_place t g.at h.at v w y))
    one (Ok g) (Err p) e v w = unfold piece_at in let z : ◌≡◌ {A = ℕ} 0 1 = cc in absurd (omega arith)
    one (Err p) (Ok g) e v w = unfold piece_at in let z : ◌≡◌ {A = ℕ} 0 1 = cc in absurd (omega arith)
    one (Err p) (Err q) e v w =
        unfold piece_at reached in
        let y : drop p.at t ≡ drop q.at t = cc in
        ap Err (same_stuck t p q v w y)

-- a form that accepts one text
only : List ℕ → Form
only u = bytes u (done no_set)

only_own : (u : List ℕ) → scan (only u) u ≡ read no_set
unfolding only scan
only_own u = ap (scan (only u)) (sym (append-nil u)) ∙ bytes-scan u (done no_set) []

none_left : (w : List ℕ) → scan (done no_set) w ≡ read no_set → w ≡ []
unfolding scan
none_left [] e = refl
none_left (b ∷ w) e = let z : ◌≡◌ {A = ℕ} 0 1 = cc in absurd (omega arith)

only_one : (u v : List ℕ) → scan (only u) v ≡ read no_set → v ≡ u
unfolding only
only_one u v e =
    let r = bytes_read u (done no_set) v no_set e in
    r.1 ∙ ap (λ w. u ++ w) (none_left r.0 r.2) ∙ append-nil u

pub one_step : (t : List ℕ) (at : ℕ) (part : Form → Form) (r q : Result ℕ Stuck) → Steps t at part r → Steps t at part q → r ≡ q
one_step t at part r q a b = one r q (λ f. sym (a.goes f) ∙ b.goes f) a.within b.within
  where
    one : (r q : Result ℕ Stuck) → ((f : Form) → onward t f r ≡ onward t f q) → stands r ≤ length t → stands q ≤ length t → r ≡ q
    one (Ok p) (Ok q) e v w =
        unfold onward stands in
        let u = drop p t in
        ap Ok (same_place t p q v w (sym (only_one u (drop q t) (sym (e (only u)) ∙ only_own u))))
    one (Ok p) (Err q) e v w =
        unfold onward in
        let x : read no_set ≡ stuck (drop q.at t) = sym (only_own (drop p t)) ∙ e (only (drop p t)) in
        let z : ◌≡◌ {A = ℕ} 0 1 = cc in
        absurd (omega arith)
    one (Err p) (Ok q) e v w =
        unfold onward in
        let x : read no_set ≡ stuck (drop p.at t) = sym (only_own (drop q t)) ∙ sym (e (only (drop q t))) in
        let z : ◌≡◌ {A = ℕ} 0 1 = cc in
        absurd (omega arith)
    one (Err p) (Err q) e v w =
        unfold onward stands in
        let x : stuck (drop p.at t) ≡ stuck (drop q.at t) = e (done no_set) in
        let y : drop p.at t ≡ drop q.at t = cc in
        ap Err (same_stuck t p q v w y)
