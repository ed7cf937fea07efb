-- A number read, with the byte behind it. The byte c behind is no digit, and a range begins at 0 or 1: so what has been read is a number of the range itself.
--   number-decimal  == behind the digits of n, the number read is n so far;  number_read: and n, where c follows
--   number-got      == where a number is got, it is of the range, and its digits and c were read
--   Sticks          == where the reading stuck, what was read can be completed, and no byte that stands there can follow it
--   number_short    == so it is where no number is got
-- Assumes nothing.
use Prim.Native.Nat.{ℕ, zero, suc, ◌+◌, ◌-◌, ◌*◌, ◌/◌, ◌%◌, ◌≤◌, ◌<◌}
use mathlib.Core.Path.{◌≡◌, refl, sym, ◌∙◌, ap}
use mathlib.Core.Bool.{true}
use mathlib.Core.List.{List, [], ◌∷◌, ◌++◌, append_assoc, nil≢cons}
use native.Mathlib.Omega.{arith}
use lib.Dec.{eqb, leb, ltb}
use borrow.Author.Tests.{lt-ltb, le-leb, eq-eqb, ne_eqb, eqb-true}
use Rattle.model.specs.Texts.{digit, spelled, decimal}
use Rattle.forms.specs.Forms.{Piece, got, short, begins, grows, more, number}
use Rattle.laws.proofs.Bools.{tests, split, and_l, and_r, and_i}
use Rattle.forms.proofs.Decimals.{decimal_digit, decimal-longer}

-- one byte ---------------------------------------------------------------------------------------------------------------------------

pub begins_i : (least most b : ℕ) → 48 ≤ b → b ≤ 57 → least ≤ b - 48 → b - 48 ≤ most → begins least most b ≡ true
unfolding begins
begins_i least most b p q r s =
    and_i (le-leb 48 b p) (and_i (le-leb b 57 q) (and_i (le-leb least (b - 48) r) (le-leb (b - 48) most s)))

pub begins_e : (least most b : ℕ) → begins least most b ≡ true → (48 ≤ b) × (b ≤ 57) × (least ≤ b - 48) × (b - 48 ≤ most)
unfolding begins
begins_e least most b h =
    let x = and_r (leb 48 b) _ h in
    let y = and_r (leb b 57) _ x in
    omega (tests, and_l (leb 48 b) _ h, and_l (leb b 57) _ x, and_l (leb least (b - 48)) _ y, and_r (leb least (b - 48)) _ y)

pub grows_i : (most n b : ℕ) → 48 ≤ b → b ≤ 57 → 1 ≤ n → n * 10 + (b - 48) ≤ most → grows most n b ≡ true
unfolding grows
grows_i most n b p q r s =
    and_i (le-leb 48 b p) (and_i (le-leb b 57 q) (and_i (lt-ltb 0 n r) (le-leb (n * 10 + (b - 48)) most s)))

pub grows_e : (most n b : ℕ) → grows most n b ≡ true → (48 ≤ b) × (b ≤ 57) × (1 ≤ n) × (n * 10 + (b - 48) ≤ most)
unfolding grows
grows_e most n b h =
    let x = and_r (leb 48 b) _ h in
    let y = and_r (leb b 57) _ x in
    omega (tests, and_l (leb 48 b) _ h, and_l (leb b 57) _ x, and_l (ltb 0 n) _ y, and_r (ltb 0 n) _ y)

digit_back : (b : ℕ) → 48 ≤ b → digit (b - 48) ≡ b
unfolding digit
digit_back b h = omega arith

pub not_both {ℓ} : {P : Type ℓ} {n : ℕ} {t u : List ℕ} {x : Piece} → x ≡ got n t → x ≡ short u → P
not_both {n = n} {t} {u} {x} p q = let z : ◌≡◌ {A = ℕ} 0 1 = cc in absurd (omega arith)

digits : (b : ℕ) (v : List ℕ) → 48 ≤ b → b ≤ 57 → decimal (b - 48) ++ v ≡ b ∷ v
digits b v p q = ap (λ l. l ++ v) (decimal_digit (b - 48) (omega arith)) ∙ ap (λ x. x ∷ v) (digit_back b p)

module _ (most c : ℕ) (behind : c < 48) where
  more-digit : (n d : ℕ) (v : List ℕ) → 1 ≤ n → d < 10 → n * 10 + d ≤ most → more most c n (digit d ∷ v) ≡ more most c (n * 10 + d) v
  unfolding more digit
  more-digit n d v p q r =
      rw (ne_eqb (48 + d) c (omega arith), grows_i most n (48 + d) (omega arith) (omega arith) p (omega arith))
      (ap (λ x. more most c x v) (omega arith))

  -- what stands where the reading stuck can follow in no text
  abbrev Halts : ℕ → List ℕ → Type 0
  Halts m l = (b : ℕ) (r w : List ℕ) → l ≡ b ∷ r → more most c m (b ∷ w) ≡ short (b ∷ w)

  more-longer : (n b : ℕ) (v : List ℕ) → grows most n b ≡ true → decimal (n * 10 + (b - 48)) ++ v ≡ decimal n ++ (b ∷ v)
  more-longer n b v g =
      let e = grows_e most n b g in
      ap (λ l. l ++ v) (decimal-longer n (b - 48) (omega arith) (omega arith))
      ∙ append_assoc (decimal n) (digit (b - 48) ∷ []) v
      ∙ ap (λ x. decimal n ++ (x ∷ v)) (digit_back b (omega arith))

  more-got : (n : ℕ) (v : List ℕ) (m : ℕ) (u : List ℕ) → n ≤ most → more most c n v ≡ got m u
      → (n ≤ m) × (m ≤ most) × (decimal n ++ v ≡ decimal m ++ (c ∷ u))
  unfolding more
  more-got n [] m u z h = not_both h refl
  more-got n (b ∷ v) m u z h =
      split (eqb b c)
      (λ t.
      let k : got n v ≡ got m u = rw t at h in
      let e : n ≡ m = cc in
      let f : v ≡ u = cc in
      let g : b ≡ c = eqb-true b c t in (omega arith, omega arith, cc))
      (λ f.
      split (grows most n b)
      (λ g.
      let e = grows_e most n b g in
      let r = more-got (n * 10 + (b - 48)) v m u e.3 (rw (f, g) at h) in
      (omega (arith, r.0), r.1, sym (more-longer n b v g) ∙ r.2))
      (λ g. not_both (rw (f, g) at h) refl))

  more-short : (n : ℕ) (v l : List ℕ) → n ≤ most → more most c n v ≡ short l
      → (m : ℕ) × (n ≤ m) × (m ≤ most) × (decimal n ++ v ≡ decimal m ++ l) × Halts m l
  unfolding more
  more-short n [] l z h =
      let e : [] ≡ l = cc in (n, omega arith, z, cc, λ b r w q. absurd (nil≢cons (e ∙ q)))
  more-short n (b ∷ v) l z h =
      split (eqb b c)
      (λ t. not_both refl (rw t at h))
      (λ f.
      split (grows most n b)
      (λ g.
      let e = grows_e most n b g in
      let r = more-short (n * 10 + (b - 48)) v l e.3 (rw (f, g) at h) in
      (r.0, omega (arith, r.1), r.2, sym (more-longer n b v g) ∙ r.3, r.4))
      (λ g.
      let k : short (b ∷ v) ≡ short l = rw (f, g) at h in
      let e : b ∷ v ≡ l = cc in (
        n,
        omega arith,
        z,
        ap (λ x. decimal n ++ x) e,
        λ i r w q. let a : b ≡ i = cc in rw (← a, f, g) refl,
      )))

-- a number ---------------------------------------------------------------------------------------------------------------------------

-- where the reading of t stuck with l left: some number begins with what was read, and what stands there cannot follow it
pub record Sticks (least most c : ℕ) (t l : List ℕ) : Type 0 where
  pub start : List ℕ
  pub parts : t ≡ start ++ l
  pub value : ℕ
  pub completes : (v : List ℕ) → (u : List ℕ) × (number least most c (start ++ u) ≡ got value v)
  pub halts : (b : ℕ) (r w : List ℕ) → l ≡ b ∷ r → number least most c (start ++ (b ∷ w)) ≡ short (b ∷ w)

module _ (least most c : ℕ) (low : least ≤ 1) (behind : c < 48) where
  number-digit : (d : ℕ) (v : List ℕ) → least ≤ d → d ≤ most → d < 10 → number least most c (digit d ∷ v) ≡ more most c d v
  unfolding number digit
  number-digit d v p q h =
      rw (begins_i least most (48 + d) (omega arith) (omega arith) (omega arith) (omega arith))
      (ap (λ x. more most c x v) (omega arith))

  spelled-number : (k n : ℕ) (v : List ℕ) → least ≤ n → n ≤ most → n < k → number least most c (spelled k n ++ v) ≡ more most c n v
  unfolding spelled
  spelled-number zero n v p q h = absurd (omega arith)
  spelled-number (suc k) n v p q h =
      split (ltb n 10)
      (λ t. rw t (number-digit n v p q (omega (tests, t))))
      (λ f. rw f
      (ap (number least most c) (append_assoc (spelled k (n / 10)) (digit (n % 10) ∷ []) v)
      ∙ spelled-number k (n / 10) (digit (n % 10) ∷ v) (omega (tests, f)) (omega arith) (omega (tests, f))
      ∙ more-digit most c behind (n / 10) (n % 10) v (omega (tests, f)) (omega arith) (omega arith)
      ∙ ap (λ x. more most c x v) (omega arith)))

  pub number-decimal : (n : ℕ) (v : List ℕ) → least ≤ n → n ≤ most → number least most c (decimal n ++ v) ≡ more most c n v
  unfolding decimal
  number-decimal n v p q = spelled-number (suc n) n v p q (omega arith)

  pub number_read : (n : ℕ) (v : List ℕ) → least ≤ n → n ≤ most → number least most c (decimal n ++ (c ∷ v)) ≡ got n v
  unfolding more
  number_read n v p q = number-decimal n (c ∷ v) p q ∙ rw (eq-eqb c c refl) refl

  pub number-got : (t : List ℕ) (n : ℕ) (u : List ℕ) → number least most c t ≡ got n u
      → (least ≤ n) × (n ≤ most) × (t ≡ decimal n ++ (c ∷ u))
  unfolding number
  number-got [] n u h = not_both h refl
  number-got (b ∷ t) n u h =
      split (begins least most b)
      (λ g.
      let e = begins_e least most b g in
      let r = more-got most c behind (b - 48) t n u e.3 (rw g at h) in
      (omega (arith, r.0), r.1, sym (digits b t e.0 e.1) ∙ r.2))
      (λ g. not_both (rw g at h) refl)

  pub number_short : (t l : List ℕ) → least ≤ most → number least most c t ≡ short l → Sticks least most c t l
  unfolding number
  number_short [] l some h =
      let e : [] ≡ l = cc in
      record {
        start = [];
        parts = e;
        value = least;
        completes = λ v. (decimal least ++ (c ∷ v), number_read least v (omega arith) some);
        halts = λ b r w q. absurd (nil≢cons (e ∙ q));
      }
  number_short (b ∷ t) l some h =
      split (begins least most b)
      (λ g.
      let e = begins_e least most b g in
      let r = more-short most c behind (b - 48) t l e.3 (rw g at h) in
      let m = r.0 in
      record {
        start = decimal m;
        parts = sym (digits b t e.0 e.1) ∙ r.3;
        value = m;
        completes = λ v. (c ∷ v, number_read m v (omega (arith, r.1)) r.2);
        halts = λ i x w q. number-decimal m (i ∷ w) (omega (arith, r.1)) r.2 ∙ r.4 i x w q;
      })
      (λ g.
      let k : short (b ∷ t) ≡ short l = rw g at h in
      let e : b ∷ t ≡ l = cc in
      record {
        start = [];
        parts = e;
        value = least;
        completes = λ v. (decimal least ++ (c ∷ v), number_read least v (omega arith) some);
        halts = λ i r w q. let a : b ≡ i = cc in rw (← a, g) refl;
      })
