-- The places of a list with one for each job, and what one slot does to a state.
--   at_held          == what a list holds for a job, or d
--   Placed p         == a number that takes part is a place, 1 to 64
--   at_in, at_suc, at_place, at_out, at_set, place   == what stands at a place;  ext_at: lists that hold the same at each are equal
--   pick-room        == so is who is picked
--   members-..       == who is a member takes part; none is one twice, and 0 is none
--   account-..       == the parts of the state after a slot
-- Assumes nothing.
use Prim.Native.Nat.{ℕ, zero, suc, ◌+◌, ◌-◌, ◌≤◌, ◌<◌}
use mathlib.Core.Path.{◌≡◌, refl, sym, ◌∙◌, ap}
use mathlib.Core.Bool.{Bool, true, false, cond, not}
use mathlib.Core.List.{List, [], ◌∷◌}
use native.Mathlib.Omega.{arith}
use lib.Dec.{eqb, leb}
use lib.ListN.{get_or, length, set, length-set, get_or-eq_default}
use lib.Seq.{get_or-set_same, get_or-set_other, ext_get_or}
use borrow.Author.Tests.{ne_eqb, eqb-true, eqb-false, not-true}
use Rattle.std.specs.Option.{unwrap_or}
use Rattle.std.proofs.lemmas.Option.{unwrap_or-slice_get}
use Rattle.model.specs.declared.Level.{Level}
use Rattle.model.specs.declared.Level.TheVariants.{Lo, Hi}
use Rattle.model.specs.declared.State.{State}
use Rattle.model.specs.Lists.{held, at, from, numbers, mem}
use Rattle.model.specs.Sets.{Policy, is_hi, members}
use Rattle.model.specs.Runs.{time, ready, pick, bump, account}
use Rattle.laws.proofs.Bools.{tests, split, clash, and_r}
use Rattle.laws.proofs.Lists.{distinct, only_i, only_e, first_some}
use Rattle.laws.proofs.Sums.{from-mem, mem-from, from-distinct, only-distinct}

-- places ------------------------------------------------------------------------------------------------------------------------------

pub at_held : {A : Type 0} (l : List A) (j : ℕ) (d : A) → unwrap_or (held l j) d ≡ at l j d
unfolding held at
at_held l j d = split (eqb j 0) (λ e. rw e refl) (λ e. rw e (unwrap_or-slice_get l (j - 1) d))

abbrev pub Placed : Policy → Type 0
Placed p = (j : ℕ) → p.part j ≡ true → (1 ≤ j) × (j ≤ 64)

pub at_in {ℓ} : {A : Type ℓ} (l : List A) (j : ℕ) (d : A) → 1 ≤ j → at l j d ≡ get_or l (j - 1) d
unfolding at
at_in l j d h = rw (ne_eqb j 0 (omega arith))

pub at_suc {ℓ} : {A : Type ℓ} (l : List A) (i : ℕ) (d : A) → at l (suc i) d ≡ get_or l i d
at_suc l i d = at_in l (suc i) d (omega arith) ∙ ap (λ n. get_or l n d) (omega arith)

-- at a place of the list what stands there is no default
pub get_d_any {ℓ} : {A : Type ℓ} (l : List A) (i : ℕ) (a b : A) → i < length l → get_or l i a ≡ get_or l i b
get_d_any [] i a b h = absurd (omega arith)
get_d_any (x ∷ l) zero a b h = refl
get_d_any (x ∷ l) (suc i) a b h = get_d_any l i a b (omega arith)

pub at_place {ℓ} : {A : Type ℓ} (l : List A) (j : ℕ) (d e : A) → 1 ≤ j → j ≤ length l → at l j d ≡ get_or l (j - 1) e
at_place l j d e p q = at_in l j d p ∙ get_d_any l (j - 1) d e (omega arith)

-- two lists are equal when they are as long and hold the same at each place
pub ext_at {ℓ} : {A : Type ℓ} (d : A) (l m : List A) → length l ≡ length m
    → ((j : ℕ) → 1 ≤ j → j ≤ length l → at l j d ≡ at m j d) → l ≡ m
ext_at d l m e h =
    ext_get_or d l m e (λ i q. sym (at_suc l i d) ∙ h (suc i) (omega arith) (omega arith) ∙ at_suc m i d)

pub at_out {ℓ} : {A : Type ℓ} (l : List A) (j : ℕ) (d : A) → length l < j → at l j d ≡ d
at_out l j d h = at_in l j d (omega arith) ∙ get_or-eq_default l d (omega arith)

pub at_set {ℓ} : {A : Type ℓ} (l : List A) (k j : ℕ) (a d : A) → 1 ≤ k → k ≤ length l → 1 ≤ j
    → at (set l (k - 1) a) j d ≡ cond (eqb k j) a (at l j d)
at_set l k j a d p q r =
    split (eqb k j)
    (λ e. rw e
    (at_in (set l (k - 1) a) j d r
    ∙ ap (λ i. get_or (set l (k - 1) a) i d) (let z : k ≡ j = eqb-true k j e in omega arith)
    ∙ get_or-set_same l (k - 1) a d (omega arith)))
    (λ e. rw e
    (at_in (set l (k - 1) a) j d r
    ∙ get_or-set_other l (k - 1) (j - 1) a d (let z : k ≡ j → ⊥ = eqb-false k j e in omega arith)
    ∙ sym (at_in l j d r)))

-- a place that is not done is one of the list's
pub place : (l : List Bool) (j : ℕ) → at l j true ≡ false → (1 ≤ j) × (j ≤ length l)
unfolding at
place l j h =
    split (leb 1 j)
    (λ p.
    split (leb j (length l)) (λ q. omega (tests, p, q))
    (λ q. clash (at_out l j true (omega (tests, q))) h))
    (λ p. clash (let z : j ≡ 0 = omega (tests, p) in rw z refl) h)

-- who is picked is not done
pub pick-room : (l : List ℕ) (a : ℕ → ℕ) (d : List Bool) (t : ℕ) → pick l a d t ≤ length d
unfolding pick ready
pick-room l a d t =
    let j : ℕ = pick l a d t in
    split (eqb j 0)
    (λ e. omega (tests, e))
    (λ n.
    let r = (first_some (ready a d t) l (eqb-false j 0 n)).1 in
    (place d j (not-true (at d j true) (and_r (leb (a j) t) (not (at d j true)) r))).1)

pub members_i : (p : Policy) (j : ℕ) → Placed p → p.part j ≡ true → mem j (members p) ≡ true
unfolding members numbers
members_i p j r h = only_i p.part (from 1 64) j (from-mem 1 64 j (omega (arith, r j h)) (omega (arith, r j h))) h

pub members_e : (p : Policy) (j : ℕ) → mem j (members p) ≡ true → p.part j ≡ true
unfolding members numbers
members_e p j m = (only_e p.part (from 1 64) j m).1

pub members-distinct : (p : Policy) → distinct (members p) ≡ true
unfolding members numbers
members-distinct p = only-distinct p.part (from 1 64) (from-distinct 1 64)

pub members_nonzero : (p : Policy) → mem 0 (members p) ≡ false
unfolding members numbers
members_nonzero p =
    split (mem 0 (members p)) (λ m. absurd (omega (arith, mem-from 1 64 0 (only_e p.part (from 1 64) 0 m).0))) (λ n. n)

pub is_lo : (m : Level) → is_hi m ≡ false → m ≡ Lo
unfolding is_hi
is_lo Lo h = refl
is_lo Hi h = clash {b = true} refl h

pub is_hi_lem : (m : Level) → is_hi m ≡ true → m ≡ Hi
unfolding is_hi
is_hi_lem Lo h = clash {b = false} h refl
is_hi_lem Hi h = refl

pub cond-hi : (b : Bool) → is_hi (cond b Hi Lo) ≡ b
unfolding is_hi
cond-hi true = refl
cond-hi false = refl

-- one step ----------------------------------------------------------------------------------------------------------------------------

pub account_lengths : (c : List ℕ) (j : ℕ) (m : Level) (s : State) → (length s.had ≡ 64) × (length s.done ≡ 64)
    → (length (account c j m s).had ≡ 64) × (length (account c j m s).done ≡ 64)
unfolding account bump
account_lengths c j m s h =
    split (eqb j 0) (λ e. rw e h)
    (λ e. rw e (
      length-set s.had (j - 1) (suc (at s.had j 0)) ∙ h.0,
      length-set s.done (j - 1) (eqb (suc (at s.had j 0)) (time c j)) ∙ h.1,
    ))

pub account-had : (c : List ℕ) (k : ℕ) (m : Level) (s : State) (j : ℕ) → length s.had ≡ 64 → k ≤ 64 → 1 ≤ j
    → at (account c k m s).had j 0 ≡ at s.had j 0 + cond (eqb k j) 1 0
unfolding account bump
account-had c k m s j n q r =
    split (eqb k 0)
    (λ e. rw e (rw (ne_eqb k j (omega (tests, e))) (omega arith)))
    (λ e.
    let ne : k ≡ 0 → ⊥ = eqb-false k 0 e in
    rw e
    (at_set s.had k j (suc (at s.had k 0)) 0 (omega (arith, ne)) (omega arith) r
    ∙ split (eqb k j)
    (λ z. rw z (let w : k ≡ j = eqb-true k j z in ap suc (ap (λ i. at s.had i 0) w) ∙ omega arith))
    (λ z. rw z (omega arith))))

pub account-done : (c : List ℕ) (k : ℕ) (m : Level) (s : State) (j : ℕ) → length s.done ≡ 64 → k ≤ 64 → 1 ≤ j
    → at (account c k m s).done j true ≡ cond (eqb k j) (eqb (suc (at s.had j 0)) (time c j)) (at s.done j true)
unfolding account
account-done c k m s j n q r =
    split (eqb k 0)
    (λ e. rw e (rw (ne_eqb k j (omega (tests, e))) refl))
    (λ e.
    let ne : k ≡ 0 → ⊥ = eqb-false k 0 e in
    rw e
    (at_set s.done k j (eqb (suc (at s.had k 0)) (time c k)) true (omega (arith, ne)) (omega arith) r
    ∙ split (eqb k j)
    (λ z. rw z (let w : k ≡ j = eqb-true k j z in ap (λ i. eqb (suc (at s.had i 0)) (time c i)) w))
    (λ z. rw z refl)))

pub account_mode : (c : List ℕ) (k : ℕ) (m : Level) (s : State) → (account c k m s).mode ≡ m
unfolding account
account_mode c k m s = split (eqb k 0) (λ e. rw e refl) (λ e. rw e refl)
