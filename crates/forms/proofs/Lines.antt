-- Given bytes and lines of numbers, in a form and in a text.
--   ..-sane        == the form is sane, where what follows is
--   ..-scan        == behind its text, the scan goes on with what follows
--   ..-read        == a text that is accepted begins with its text
--   Within xs ms   == the numbers xs are as many as the limits ms, and each is at most its limit
-- Assumes nothing.
use Prim.Native.Nat.{ℕ, ◌≤◌}
use mathlib.Core.Path.{◌≡◌, refl, sym, ◌∙◌, ap}
use mathlib.Core.List.{List, [], ◌∷◌, ◌++◌, append_assoc, append-nil}
use native.Mathlib.Omega.{arith}
use lib.ListN.{length}
use borrow.Author.Tests.{ne_eqb}
use Rattle.model.specs.declared.Set.{Set}
use Rattle.model.specs.Texts.{decimal, fields, line, order_line}
use Rattle.forms.specs.Forms.{space, lf, Form, read, scan, bytes, count, row}
use Rattle.forms.proofs.Scans.{Range, Sane, scan-byte, scan-field, byte-read, field-read}

-- given bytes ------------------------------------------------------------------------------------------------------------------------

pub bytes_sane : (l : List ℕ) (f : Form) → Sane f → Sane (bytes l f)
unfolding Sane bytes
bytes_sane [] f g = g
bytes_sane (b ∷ l) f g = bytes_sane l f g

pub bytes-scan : (l : List ℕ) (f : Form) (t : List ℕ) → scan (bytes l f) (l ++ t) ≡ scan f t
unfolding bytes
bytes-scan [] f t = refl
bytes-scan (b ∷ l) f t = scan-byte b (bytes l f) (l ++ t) ∙ bytes-scan l f t

pub bytes_read : (l : List ℕ) (f : Form) (t : List ℕ) (s : Set) → scan (bytes l f) t ≡ read s
    → (u : List ℕ) × (t ≡ l ++ u) × (scan f u ≡ read s)
unfolding bytes
bytes_read [] f t s h = (t, refl, h)
bytes_read (b ∷ l) f t s h =
    let x = byte-read b (bytes l f) t s h in
    let r = bytes_read l f x.0 s x.2 in
    (r.0, x.1 ∙ ap (λ y. b ∷ y) r.1, r.2)

-- a count that is determined, on its line
pub count-scan : (n : ℕ) (f : Form) (t : List ℕ) → scan (count n f) (line (n ∷ []) ++ t) ≡ scan f t
unfolding count line fields lf
count-scan n f t = bytes-scan (decimal n ++ (10 ∷ [])) f t

pub count-read : (n : ℕ) (f : Form) (t : List ℕ) (s : Set) → scan (count n f) t ≡ read s
    → (u : List ℕ) × (t ≡ line (n ∷ []) ++ u) × (scan f u ≡ read s)
unfolding count line fields lf
count-read n f t s h = bytes_read (decimal n ++ (10 ∷ [])) f t s h

-- numbers on a line ------------------------------------------------------------------------------------------------------------------

unfoldable pub Within : List ℕ → List ℕ → Type 0
Within [] [] = Unit
Within [] (m ∷ ms) = ⊥
Within (x ∷ xs) [] = ⊥
Within (x ∷ xs) (m ∷ ms) = (x ≤ m) × Within xs ms

range-lf : (m : ℕ) → Range 0 m lf
unfolding lf
range-lf m = record { low = omega arith; some = omega arith; behind = omega arith }

range-space : (m : ℕ) → Range 0 m space
unfolding space
range-space m = record { low = omega arith; some = omega arith; behind = omega arith }

pub row_sane : (ms l : List ℕ) (k : List ℕ → Form) → ((x : List ℕ) → Sane (k x)) → Sane (row ms l k)
unfolding Sane row
row_sane [] l k g = g l
row_sane (m ∷ []) l k g = (range-lf m, λ x. g (l ++ (x ∷ [])))
row_sane (m ∷ o ∷ ms) l k g = (range-space m, λ x. row_sane (o ∷ ms) (l ++ (x ∷ [])) k g)

pub line_last : (x : ℕ) (t : List ℕ) → line (x ∷ []) ++ t ≡ decimal x ++ (lf ∷ t)
unfolding line fields lf
line_last x t = append_assoc (decimal x) (10 ∷ []) t

pub line-more : (x y : ℕ) (xs t : List ℕ) → line (x ∷ y ∷ xs) ++ t ≡ decimal x ++ (space ∷ (line (y ∷ xs) ++ t))
unfolding line fields space
line-more x y xs t = append_assoc (decimal x) (32 ∷ line (y ∷ xs)) t

pub order_line_lem : (x : ℕ) (xs : List ℕ) → order_line (x ∷ xs) ≡ line (x ∷ xs)
unfolding order_line
order_line_lem x xs = rw (ne_eqb (length (x ∷ xs)) 0 (omega arith)) refl

order-more : (x : ℕ) (xs u : List ℕ) (o : ℕ) (ms : List ℕ) → Within xs (o ∷ ms)
    → order_line (x ∷ xs) ++ u ≡ decimal x ++ (space ∷ (order_line xs ++ u))
unfolding Within
order-more x [] u o ms w = absurd w
order-more x (y ∷ xs) u o ms w =
    ap (λ z. z ++ u) (order_line_lem x (y ∷ xs)) ∙ line-more x y xs u ∙ ap (λ z. decimal x ++ (space ∷ (z ++ u))) (sym (order_line_lem y xs))

pub row-scan : (ms l xs : List ℕ) (k : List ℕ → Form) (t : List ℕ) → Within xs ms
    → scan (row ms l k) (order_line xs ++ t) ≡ scan (k (l ++ xs)) t
unfolding Within row order_line
row-scan [] l [] k t w = ap (λ y. scan (k y) t) (sym (append-nil l))
row-scan [] l (x ∷ xs) k t w = absurd w
row-scan (m ∷ ms) l [] k t w = absurd w
row-scan (m ∷ []) l (x ∷ []) k t w =
    ap (scan (row (m ∷ []) l k)) (ap (λ y. y ++ t) (order_line_lem x []) ∙ line_last x t)
    ∙ scan-field 0 m lf (λ y. k (l ++ (y ∷ []))) x t (range-lf m) (omega arith) w.0
row-scan (m ∷ []) l (x ∷ y ∷ xs) k t w = absurd w.1
row-scan (m ∷ o ∷ ms) l (x ∷ []) k t w = absurd w.1
row-scan (m ∷ o ∷ ms) l (x ∷ y ∷ xs) k t w =
    ap (scan (row (m ∷ o ∷ ms) l k)) (order-more x (y ∷ xs) t o ms w.1)
    ∙ scan-field 0 m space (λ z. row (o ∷ ms) (l ++ (z ∷ [])) k) x (order_line (y ∷ xs) ++ t) (range-space m) (omega arith) w.0
    ∙ row-scan (o ∷ ms) (l ++ (x ∷ [])) (y ∷ xs) k t w.1
    ∙ ap (λ z. scan (k z) t) (append_assoc l (x ∷ []) (y ∷ xs))

pub row_read : (ms l : List ℕ) (k : List ℕ → Form) (t : List ℕ) (s : Set) → scan (row ms l k) t ≡ read s
    → (xs : List ℕ) × (u : List ℕ) × Within xs ms × (t ≡ order_line xs ++ u) × (scan (k (l ++ xs)) u ≡ read s)
unfolding Within row order_line
row_read [] l k t s h = ([], t, tt, refl, ap (λ y. scan (k y) t) (append-nil l) ∙ h)
row_read (m ∷ []) l k t s h =
    let r = field-read 0 m lf (λ y. k (l ++ (y ∷ []))) t s (range-lf m) h in
    let x = r.0 in
    let u = r.1 in (
      x ∷ [],
      u,
      (r.3, tt),
      r.4 ∙ sym (line_last x u) ∙ ap (λ y. y ++ u) (sym (order_line_lem x [])),
      r.5,
    )
row_read (m ∷ o ∷ ms) l k t s h =
    let r = field-read 0 m space (λ z. row (o ∷ ms) (l ++ (z ∷ [])) k) t s (range-space m) h in
    let x = r.0 in
    let q = row_read (o ∷ ms) (l ++ (x ∷ [])) k r.1 s r.5 in (
      x ∷ q.0,
      q.1,
      (r.3, q.2),
      r.4 ∙ ap (λ z. decimal x ++ (space ∷ z)) q.3 ∙ sym (order-more x q.0 q.1 o ms q.2),
      ap (λ z. scan (k z) q.1) (sym (append_assoc l (x ∷ []) q.0)) ∙ q.4,
    )
