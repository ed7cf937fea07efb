-- The scan of any form.
--   Range          == a number's range begins at 0 or 1 and is not empty, and the byte behind is no digit
--   Sane f         == so it is for each number of the form
--   scan-byte, scan-field   == what the scan goes on with behind a given byte, behind a number
--   byte-read, field-read   == and back: a text that is accepted is of these parts
--   some_text      == a sane form accepts some text
--   Stuck f t l    == an accepted text begins with what was scanned before l, and none with a byte more;  scan-stuck: where the scan of t stuck at l
-- Assumes nothing.
use Prim.Native.Nat.{ℕ, ◌≤◌, ◌<◌}
use mathlib.Core.Path.{◌≡◌, refl, sym, ◌∙◌, ap, subst}
use mathlib.Core.List.{List, [], ◌∷◌, ◌++◌, append_assoc, nil≢cons}
use native.Mathlib.Omega.{arith}
use lib.Dec.{eqb}
use borrow.Author.Tests.{eq-eqb, eqb-true}
use Rattle.model.specs.declared.Set.{Set}
use Rattle.model.specs.Texts.{decimal}
use Rattle.forms.specs.Forms.{Piece, got, short, number, then, Form, done, byte, field, Scanned, read, stuck, scan}
use Rattle.laws.proofs.Bools.{split}
use Rattle.forms.proofs.Numbers.{number_read, number-got, Sticks, number_short}

pub record Range (least most c : ℕ) : Type 0 where
  pub low : least ≤ 1
  pub some : least ≤ most
  pub behind : c < 48

unfoldable pub Sane : Form → Type 0
Sane (done s) = Unit
Sane (byte c f) = Sane f
Sane (field least most c k) = Range least most c × ((n : ℕ) → Sane (k n))

pub not-read {ℓ} : {P : Type ℓ} {s : Set} {l : List ℕ} {x : Scanned} → x ≡ read s → x ≡ stuck l → P
not-read {s = s} {l} {x} p q = let z : ◌≡◌ {A = ℕ} 0 1 = cc in absurd (omega arith)

-- parts of an accepted text ----------------------------------------------------------------------------------------------------------

pub scan-byte : (c : ℕ) (f : Form) (t : List ℕ) → scan (byte c f) (c ∷ t) ≡ scan f t
unfolding scan
scan-byte c f t = rw (eq-eqb c c refl) refl

pub scan-got : (least most c : ℕ) (k : ℕ → Form) (n : ℕ) (t u : List ℕ) → number least most c t ≡ got n u
    → scan (field least most c k) t ≡ scan (k n) u
unfolding scan then
scan-got least most c k n t u e = rw e refl

pub scan-short : (least most c : ℕ) (k : ℕ → Form) (t l : List ℕ) → number least most c t ≡ short l
    → scan (field least most c k) t ≡ stuck l
unfolding scan then
scan-short least most c k t l e = rw e refl

pub scan-field : (least most c : ℕ) (k : ℕ → Form) (n : ℕ) (t : List ℕ) → Range least most c → least ≤ n → n ≤ most
    → scan (field least most c k) (decimal n ++ (c ∷ t)) ≡ scan (k n) t
scan-field least most c k n t g p q =
    scan-got least most c k n (decimal n ++ (c ∷ t)) t (number_read least most c g.low g.behind n t p q)

pub byte-read : (c : ℕ) (f : Form) (t : List ℕ) (s : Set) → scan (byte c f) t ≡ read s
    → (u : List ℕ) × (t ≡ c ∷ u) × (scan f u ≡ read s)
unfolding scan
byte-read c f [] s h = not-read h refl
byte-read c f (b ∷ t) s h =
    split (eqb b c) (λ e. (t, ap (λ x. x ∷ t) (eqb-true b c e), rw e at h)) (λ e. not-read (rw e at h) refl)

-- a number is got, or its reading stuck
pub by-piece {ℓ} : {P : Type ℓ} (x : Piece) → ((n : ℕ) (u : List ℕ) → x ≡ got n u → P) → ((l : List ℕ) → x ≡ short l → P) → P
by-piece (got n u) f g = f n u refl
by-piece (short l) f g = g l refl

pub field-read : (least most c : ℕ) (k : ℕ → Form) (t : List ℕ) (s : Set) → Range least most c → scan (field least most c k) t ≡ read s
    → (n : ℕ) × (u : List ℕ) × (least ≤ n) × (n ≤ most) × (t ≡ decimal n ++ (c ∷ u)) × (scan (k n) u ≡ read s)
field-read least most c k t s g h =
    by-piece (number least most c t)
    (λ n u e.
    let r = number-got least most c g.low g.behind t n u e in
    (n, u, r.0, r.1, r.2, sym (scan-got least most c k n t u e) ∙ h))
    (λ l e. not-read h (scan-short least most c k t l e))

-- where a scan is stuck --------------------------------------------------------------------------------------------------------------

pub some_text : (f : Form) → Sane f → (t : List ℕ) × (s : Set) × (scan f t ≡ read s)
unfolding Sane scan
some_text (done s) g = ([], s, refl)
some_text (byte c f) g = let r = some_text f g in (c ∷ r.0, r.1, scan-byte c f r.0 ∙ r.2)
some_text (field least most c k) g =
    let r = some_text (k least) (g.1 least) in
    (decimal least ++ (c ∷ r.0), r.1, scan-field least most c k least r.0 g.0 (omega arith) g.0.some ∙ r.2)

pub record Stuck (f : Form) (t l : List ℕ) : Type 0 where
  pub start : List ℕ
  pub parts : t ≡ start ++ l
  pub completes : (u : List ℕ) × (s : Set) × (scan f (start ++ u) ≡ read s)
  pub halts : (b : ℕ) (r w : List ℕ) → l ≡ b ∷ r → scan f (start ++ (b ∷ w)) ≡ stuck (b ∷ w)

-- what stuck behind the byte c, or behind a number, stuck there
stuck-byte : (c : ℕ) (f : Form) (t l : List ℕ) → Stuck f t l → Stuck (byte c f) (c ∷ t) l
stuck-byte c f t l x =
    record {
      start = c ∷ x.start;
      parts = ap (λ y. c ∷ y) x.parts;
      completes = (x.completes.0, x.completes.1, scan-byte c f (x.start ++ x.completes.0) ∙ x.completes.2);
      halts = λ b r w e. scan-byte c f (x.start ++ (b ∷ w)) ∙ x.halts b r w e;
    }

stuck-field : (least most c : ℕ) (k : ℕ → Form) (n : ℕ) (t l : List ℕ) → Range least most c → least ≤ n → n ≤ most → Stuck (k n) t l
    → Stuck (field least most c k) (decimal n ++ (c ∷ t)) l
stuck-field least most c k n t l g p q x =
    record {
      start = decimal n ++ (c ∷ x.start);
      parts = ap (λ y. decimal n ++ (c ∷ y)) x.parts ∙ sym (append_assoc (decimal n) (c ∷ x.start) l);
      completes =
          (x.completes.0, x.completes.1, go x.completes.0 ∙ x.completes.2);
      halts = λ b r w e. go (b ∷ w) ∙ x.halts b r w e;
    }
  where
    go : (u : List ℕ) → scan (field least most c k) (decimal n ++ (c ∷ x.start) ++ u) ≡ scan (k n) (x.start ++ u)
    go u =
        ap (scan (field least most c k)) (append_assoc (decimal n) (c ∷ x.start) u)
        ∙ scan-field least most c k n (x.start ++ u) g p q

stuck-number : (least most c : ℕ) (k : ℕ → Form) (t l : List ℕ) → ((n : ℕ) → Sane (k n)) → Sticks least most c t l
    → Stuck (field least most c k) t l
stuck-number least most c k t l g x =
    let r = some_text (k x.value) (g x.value) in
    let y = x.completes r.0 in
    record {
      start = x.start;
      parts = x.parts;
      completes = (y.0, r.1, scan-got least most c k x.value (x.start ++ y.0) r.0 y.1 ∙ r.2);
      halts = λ b v w e. scan-short least most c k (x.start ++ (b ∷ w)) (b ∷ w) (x.halts b v w e);
    }

pub scan-stuck : (f : Form) → Sane f → (t l : List ℕ) → scan f t ≡ stuck l → Stuck f t l
unfolding Sane scan
scan-stuck (done s) g [] l h = not-read refl h
scan-stuck (done s) g (b ∷ t) l h =
    let e : b ∷ t ≡ l = cc in
    record { start = []; parts = e; completes = ([], s, refl); halts = λ i r w q. refl }
scan-stuck (byte c f) g [] l h =
    let e : [] ≡ l = cc in
    record { start = []; parts = e; completes = some_text (byte c f) g; halts = λ i r w q. absurd (nil≢cons (e ∙ q)) }
scan-stuck (byte c f) g (b ∷ t) l h =
    split (eqb b c)
    (λ y. subst (λ x. Stuck (byte c f) (x ∷ t) l) (sym (eqb-true b c y)) (stuck-byte c f t l (scan-stuck f g t l (rw y at h))))
    (λ n.
    let k : stuck (b ∷ t) ≡ stuck l = rw n at h in
    let e : b ∷ t ≡ l = cc in
    record { start = []; parts = e; completes = some_text (byte c f) g; halts = λ i r w q. let a : b ≡ i = cc in rw (← a, n) refl })
scan-stuck (field least most c k) g t l h =
    by-piece (number least most c t)
    (λ n u e.
    let r = number-got least most c g.0.low g.0.behind t n u e in
    subst (λ x. Stuck (field least most c k) x l) (sym r.2)
    (stuck-field least most c k n u l g.0 r.0 r.1
    (scan-stuck (k n) (g.1 n) u l (sym (scan-got least most c k n t u e) ∙ h))))
    (λ v e.
    let q : stuck v ≡ stuck l = sym (scan-short least most c k t v e) ∙ h in
    let z : v ≡ l = cc in
    stuck-number least most c k t l g.1
    (number_short least most c g.0.low g.0.behind t l g.0.some (e ∙ ap short z)))
