-- Laws of the model's words on lists.
--   any-.., mem-.., only-.., first-.., least-..  == what passes, who stands where
--   distinct l        == no entry of l stands in it twice
-- Assumes nothing.
use Prim.Native.Nat.{ℕ, zero, suc, ◌≤◌, ◌<◌}
use mathlib.Core.Path.{◌≡◌, refl, sym, ◌∙◌, ap, subst}
use mathlib.Core.Bool.{Bool, true, false, not, ◌&&◌, true≢false}
use mathlib.Core.List.{List, [], ◌∷◌}
use mathlib.Core.Logic.{◌⊎◌, inl, inr, ⊎_elim}
use native.Mathlib.Omega.{arith}
use lib.Dec.{eqb, leb, ltb}
use borrow.Author.Tests.{eq-eqb, not-true, eqb-true, eqb-false, ltb-true, ltb-false}
use Rattle.model.specs.Lists.{only, first, any, mem, least}
use Rattle.laws.proofs.Bools.{tests, split, clash, and_l, and_r, or_l, or_r, or_cases, or_no_l, or_no_r}

-- any, mem ---------------------------------------------------------------------------------------------------------------------------

pub any_i : (test : ℕ → Bool) (l : List ℕ) (j : ℕ) → mem j l ≡ true → test j ≡ true → any test l ≡ true
unfolding any mem
any_i test [] j m h = absurd (true≢false (sym m))
any_i test (x ∷ l) j m h =
    ⊎_elim (λ e. or_l (any test l) (subst (λ k. test k ≡ true) (eqb-true j x e) h)) (λ n. or_r (test x) (any_i test l j n h))
    (or_cases (eqb j x) (mem j l) m)

pub any_e : (test : ℕ → Bool) (l : List ℕ) → any test l ≡ true → (j : ℕ) × (mem j l ≡ true) × (test j ≡ true)
unfolding any mem
any_e test [] h = absurd (true≢false (sym h))
any_e test (x ∷ l) h =
    ⊎_elim {C = (j : ℕ) × (mem j (x ∷ l) ≡ true) × (test j ≡ true)}
    (λ t. (x, or_l (mem x l) (eq-eqb x x refl), t))
    (λ a. let r = any_e test l a in (r.0, or_r (eqb r.0 x) r.1, r.2))
    (or_cases (test x) (any test l) h)

pub any_no : (test : ℕ → Bool) (l : List ℕ) (j : ℕ) → any test l ≡ false → mem j l ≡ true → test j ≡ false
any_no test l j h m = split (test j) (λ t. clash (any_i test l j m t) h) (λ n. n)

pub any_none : (test : ℕ → Bool) (l : List ℕ) → ((j : ℕ) → mem j l ≡ true → test j ≡ false) → any test l ≡ false
any_none test l h = split (any test l) (λ a. let r = any_e test l a in clash r.2 (h r.0 r.1)) (λ n. n)

pub any_cong : (f g : ℕ → Bool) (l : List ℕ) → ((j : ℕ) → mem j l ≡ true → f j ≡ g j) → any f l ≡ any g l
any_cong f g l h =
    split (any f l)
    (λ a. let r = any_e f l a in a ∙ sym (any_i g l r.0 r.1 (sym (h r.0 r.1) ∙ r.2)))
    (λ n. n ∙ sym (any_none g l (λ j m. sym (h j m) ∙ any_no f l j n m)))

pub mem_head : (x : ℕ) (l : List ℕ) → mem x (x ∷ l) ≡ true
unfolding any mem
mem_head x l = or_l (mem x l) (eq-eqb x x refl)

pub mem_tail : (j x : ℕ) (l : List ℕ) → mem j l ≡ true → mem j (x ∷ l) ≡ true
unfolding any mem
mem_tail j x l m = or_r (eqb j x) m

pub mem_cases : (j x : ℕ) (l : List ℕ) → mem j (x ∷ l) ≡ true → (j ≡ x) ⊎ (mem j l ≡ true)
unfolding any mem
mem_cases j x l m = ⊎_elim (λ e. inl (eqb-true j x e)) (λ n. inr n) (or_cases (eqb j x) (mem j l) m)

pub not_mem_nil {ℓ} : {P : Type ℓ} (j : ℕ) → mem j [] ≡ true → P
unfolding any mem
not_mem_nil j m = absurd (true≢false (sym m))

unfoldable pub distinct : List ℕ → Bool
distinct [] = true
distinct (x ∷ l) = not (mem x l) && distinct l

pub head_out : (x : ℕ) (l : List ℕ) → distinct (x ∷ l) ≡ true → mem x l ≡ false
unfolding distinct
head_out x l d = not-true (mem x l) (and_l (not (mem x l)) (distinct l) d)

pub tail_distinct : (x : ℕ) (l : List ℕ) → distinct (x ∷ l) ≡ true → distinct l ≡ true
unfolding distinct
tail_distinct x l d = and_r (not (mem x l)) (distinct l) d

-- only -------------------------------------------------------------------------------------------------------------------------------

pub only_i : (test : ℕ → Bool) (l : List ℕ) (j : ℕ) → mem j l ≡ true → test j ≡ true → mem j (only test l) ≡ true
unfolding only
only_i test [] j m h = m
only_i test (x ∷ l) j m h =
    split (test x)
    (λ t. rw t
    (⊎_elim (λ e. subst (λ k. mem k (x ∷ only test l) ≡ true) (sym e) (mem_head x (only test l)))
    (λ n. mem_tail j x (only test l) (only_i test l j n h))
    (mem_cases j x l m)))
    (λ f. rw f
    (⊎_elim (λ e. clash (subst (λ k. test k ≡ true) e h) f) (λ n. only_i test l j n h) (mem_cases j x l m)))

pub only_e : (test : ℕ → Bool) (l : List ℕ) (j : ℕ) → mem j (only test l) ≡ true → (mem j l ≡ true) × (test j ≡ true)
unfolding only
only_e test [] j m = not_mem_nil j m
only_e test (x ∷ l) j m =
    split (test x)
    (λ t.
    ⊎_elim {C = (mem j (x ∷ l) ≡ true) × (test j ≡ true)}
    (λ e. (subst (λ k. mem k (x ∷ l) ≡ true) (sym e) (mem_head x l), ap test e ∙ t))
    (λ n. let r = only_e test l j n in (mem_tail j x l r.0, r.1))
    (mem_cases j x (only test l) (rw t at m)))
    (λ f. let r = only_e test l j (rw f at m) in (mem_tail j x l r.0, r.1))

-- first ------------------------------------------------------------------------------------------------------------------------------

pub first_some : (test : ℕ → Bool) (l : List ℕ) → (first test l ≡ 0 → ⊥) → (mem (first test l) l ≡ true) × (test (first test l) ≡ true)
unfolding first
first_some test [] h = absurd (h refl)
first_some test (x ∷ l) h =
    split (test x)
    (λ t. rw t (mem_head x l, t))
    (λ f. rw f (let r = first_some test l (rw f at h) in (mem_tail (first test l) x l r.0, r.1)))

pub first-none : (test : ℕ → Bool) (l : List ℕ) (j : ℕ) → mem 0 l ≡ false → first test l ≡ 0 → mem j l ≡ true → test j ≡ false
unfolding first any mem
first-none test [] j z e m = not_mem_nil j m
first-none test (x ∷ l) j z e m =
    split (test x)
    (λ t. absurd (eqb-false 0 x (or_no_l (eqb 0 x) (mem 0 l) z) (sym (rw t at e))))
    (λ f.
    ⊎_elim (λ (p : j ≡ x). ap test p ∙ f)
    (λ n. first-none test l j (or_no_r (eqb 0 x) (mem 0 l) z) (rw f at e) n)
    (mem_cases j x l m))

-- the first is a job, where no entry is 0
pub first_not_zero : (test : ℕ → Bool) (l : List ℕ) (i : ℕ) → mem 0 l ≡ false → mem i l ≡ true → test i ≡ true → first test l ≡ 0 → ⊥
first_not_zero test l i z m h e = true≢false (sym h ∙ first-none test l i z e m)

pub first_zero : (test : ℕ → Bool) (l : List ℕ) → ((j : ℕ) → mem j l ≡ true → test j ≡ false) → first test l ≡ 0
unfolding first
first_zero test [] h = refl
first_zero test (x ∷ l) h = rw (h x (mem_head x l)) (first_zero test l (λ j m. h j (mem_tail j x l m)))

pub first_cong : (f g : ℕ → Bool) (l : List ℕ) → ((j : ℕ) → mem j l ≡ true → f j ≡ g j) → first f l ≡ first g l
unfolding first
first_cong f g [] h = refl
first_cong f g (x ∷ l) h = rw (h x (mem_head x l), first_cong f g l (λ j m. h j (mem_tail j x l m)))

-- least ------------------------------------------------------------------------------------------------------------------------------

pub least_le : (test : ℕ → Bool) (n : ℕ) → least test n ≤ n
unfolding least
least_le test zero = omega arith
least_le test (suc n) =
    split (ltb (least test n) n)
    (λ h. rw h (omega (arith, ltb-true (least test n) n h)))
    (λ h. rw h (split (test n) (λ t. rw t (omega arith)) (λ f. rw f (omega arith))))

-- before the least, none passes
pub least-before : (test : ℕ → Bool) (n t : ℕ) → t < least test n → test t ≡ false
unfolding least
least-before test zero t h = absurd (omega arith)
least-before test (suc n) t h =
    split (ltb (least test n) n)
    (λ p. least-before test n t (rw p at h))
    (λ p.
    let e : least test n ≡ n = omega (arith, ltb-false (least test n) n p, least_le test n) in
    split (test n)
    (λ q. least-before test n t (omega (tests, e, rw (p, q) at h)))
    (λ q. split (eqb t n) (λ r. ap test (eqb-true t n r) ∙ q)
    (λ r. let ne : t ≡ n → ⊥ = eqb-false t n r in least-before test n t (omega (arith, e, ne, rw (p, q) at h)))))

-- the least passes, where it is below the bound
pub least_passes : (test : ℕ → Bool) (n : ℕ) → least test n < n → test (least test n) ≡ true
unfolding least
least_passes test zero h = absurd (omega arith)
least_passes test (suc n) h =
    split (ltb (least test n) n)
    (λ p. rw p (least_passes test n (ltb-true (least test n) n p)))
    (λ p. split (test n) (λ q. rw (p, q) q) (λ q. absurd (omega (arith, rw (p, q) at h))))

-- one that passes bounds it
pub least_bound : (test : ℕ → Bool) (n t : ℕ) → t < n → test t ≡ true → least test n ≤ t
least_bound test n t h p =
    split (leb (least test n) t) (λ q. omega (tests, q)) (λ q. clash p (least-before test n t (omega (tests, q))))

pub least_all : (test : ℕ → Bool) (n : ℕ) → ((t : ℕ) → t < n → test t ≡ false) → least test n ≡ n
least_all test n h =
    split (ltb (least test n) n)
    (λ p. clash (least_passes test n (omega (tests, p))) (h (least test n) (omega (tests, p))))
    (λ p. omega (tests, p, least_le test n))

pub least_cong : (f g : ℕ → Bool) (n : ℕ) → ((t : ℕ) → t < n → f t ≡ g t) → least f n ≡ least g n
unfolding least
least_cong f g zero h = refl
least_cong f g (suc n) h = rw (least_cong f g n (λ t p. h t (omega arith)), h n (omega arith))
