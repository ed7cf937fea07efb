-- The first of an order, compared between an order and a sub-sequence of it. No ranks: `before l a b` says that a stands in l at or before
-- the first b.
--   before l a b      == a stands in l, and at or before the first b
--   before_trans      == before is transitive
--   first_fails       == what stands before the first that passes fails
--   first-before      == whoever passes has the first at or before it
--   embed_before      == an embedding of orders keeps before
--   embed_one         == it is one-to-one
-- Assumes nothing.
use Prim.Native.Nat.{ℕ}
use mathlib.Core.Path.{◌≡◌, refl, sym, ◌∙◌, ap, subst}
use mathlib.Core.Bool.{Bool, true, false, not, ◌&&◌, ◌||◌}
use mathlib.Core.List.{List, [], ◌∷◌, map}
use mathlib.Core.Logic.{◌⊎◌, inl, inr, ⊎_elim}
use lib.Dec.{eqb}
use borrow.Author.Tests.{eq-eqb, ne_eqb, eqb-true, eqb-false, not-true}
use Rattle.model.specs.Lists.{first, any, mem}
use Rattle.theory.specs.Orders.{subsequence}
use Rattle.laws.proofs.Bools.{split, clash, not_i, and_l, and_r, and_i, or_l, or_r, or_cases}
use Rattle.laws.proofs.Lists.{mem_head, mem_tail, mem_cases, not_mem_nil, distinct, head_out, tail_distinct}

unfoldable pub before : List ℕ → ℕ → ℕ → Bool
before [] a b = false
before (x ∷ l) a b = eqb a x || not (eqb b x) && before l a b

pub before-mem : (l : List ℕ) (a b : ℕ) → before l a b ≡ true → mem a l ≡ true
unfolding before any mem
before-mem [] a b h = h
before-mem (x ∷ l) a b h =
    ⊎_elim (λ e. or_l (mem a l) e)
    (λ n. or_r (eqb a x) (before-mem l a b (and_r (not (eqb b x)) (before l a b) n)))
    (or_cases (eqb a x) (not (eqb b x) && before l a b) h)

pub before_self : (l : List ℕ) (a : ℕ) → mem a l ≡ true → before l a a ≡ true
unfolding before
before_self [] a m = not_mem_nil a m
before_self (x ∷ l) a m =
    split (eqb a x) (λ e. or_l (not (eqb a x) && before l a a) e)
    (λ n.
    or_r (eqb a x)
    (and_i (not_i n)
    (before_self l a (⊎_elim (λ p. absurd (eqb-false a x n p)) (λ q. q) (mem_cases a x l m)))))

pub before_trans : (l : List ℕ) (a b c : ℕ) → before l a b ≡ true → before l b c ≡ true → before l a c ≡ true
unfolding before
before_trans [] a b c p q = p
before_trans (x ∷ l) a b c p q =
    split (eqb a x) (λ e. or_l (not (eqb c x) && before l a c) e)
    (λ n.
    let r : (not (eqb b x) && before l a b) ≡ true =
    ⊎_elim (λ e. clash e n) (λ t. t) (or_cases (eqb a x) (not (eqb b x) && before l a b) p) in
    let bx : eqb b x ≡ false = not-true (eqb b x) (and_l (not (eqb b x)) (before l a b) r) in
    let s : (not (eqb c x) && before l b c) ≡ true =
    ⊎_elim (λ e. clash e bx) (λ t. t) (or_cases (eqb b x) (not (eqb c x) && before l b c) q) in
    or_r (eqb a x)
    (and_i (and_l (not (eqb c x)) (before l b c) s)
    (before_trans l a b c (and_r (not (eqb b x)) (before l a b) r) (and_r (not (eqb c x)) (before l b c) s))))

pub first_fails : (test : ℕ → Bool) (l : List ℕ) (a : ℕ) → (first test l ≡ 0 → ⊥) → before l a (first test l) ≡ true → (a ≡ first test l → ⊥)
    → test a ≡ false
unfolding before first
first_fails test [] a h b n = absurd (h refl)
first_fails test (x ∷ l) a h b n =
    split (test x)
    (λ t.
    let e : first test (x ∷ l) ≡ x = rw t in
    ⊎_elim {C = test a ≡ false}
    (λ p. absurd (n (eqb-true a x p ∙ sym e)))
    (λ q.
    clash (eq-eqb x x refl)
    (not-true (eqb x x) (and_l (not (eqb x x)) (before l a x) (subst (λ k. (not (eqb k x) && before l a k) ≡ true) e q))))
    (or_cases (eqb a x) (not (eqb (first test (x ∷ l)) x) && before l a (first test (x ∷ l))) b))
    (λ f.
    let e : first test (x ∷ l) ≡ first test l = rw f in
    ⊎_elim {C = test a ≡ false}
    (λ p. ap test (eqb-true a x p) ∙ f)
    (λ q.
    first_fails test l a (λ z. h (e ∙ z))
    (and_r (not (eqb (first test l) x)) (before l a (first test l)) (subst (λ k. (not (eqb k x) && before l a k) ≡ true) e q))
    (λ z. n (z ∙ sym e)))
    (or_cases (eqb a x) (not (eqb (first test (x ∷ l)) x) && before l a (first test (x ∷ l))) b))

pub first-before : (test : ℕ → Bool) (l : List ℕ) (i : ℕ) → mem i l ≡ true → test i ≡ true → before l (first test l) i ≡ true
unfolding before first
first-before test [] i m h = not_mem_nil i m
first-before test (x ∷ l) i m h =
    split (test x)
    (λ t. rw t (or_l (not (eqb i x) && before l x i) (eq-eqb x x refl)))
    (λ f. rw f
    (let ne : i ≡ x → ⊥ = λ e. clash (sym (ap test e) ∙ h) f in
    or_r (eqb (first test l) x)
    (and_i (not_i (ne_eqb i x ne))
    (first-before test l i (⊎_elim (λ e. absurd (ne e)) (λ n. n) (mem_cases i x l m)) h))))

-- embeddings of orders ---------------------------------------------------------------------------------------------------------------

pub sub_cons : (x y : ℕ) (l m : List ℕ) → subsequence (x ∷ l) (y ∷ m) ≡ true
    → ((x ≡ y) × (subsequence l m ≡ true)) ⊎ ((x ≡ y → ⊥) × (subsequence (x ∷ l) m ≡ true))
unfolding subsequence
sub_cons x y l m h =
    split (eqb x y) (λ e. inl (eqb-true x y e, rw e at h)) (λ n. inr (eqb-false x y n, rw n at h))

pub sub_mem : (l m : List ℕ) (a : ℕ) → subsequence l m ≡ true → mem a l ≡ true → mem a m ≡ true
unfolding subsequence
sub_mem [] m a h i = not_mem_nil a i
sub_mem (x ∷ l) [] a h i = clash {b = false} h refl
sub_mem (x ∷ l) (y ∷ m) a h i =
    ⊎_elim
    (λ r.
    ⊎_elim (λ p. subst (λ k. mem k (y ∷ m) ≡ true) (sym (p ∙ r.0)) (mem_head y m))
    (λ q. mem_tail a y m (sub_mem l m a r.1 q))
    (mem_cases a x l i))
    (λ r. mem_tail a y m (sub_mem (x ∷ l) m a r.1 i))
    (sub_cons x y l m h)

pub map-mem : (e : ℕ → ℕ) (l : List ℕ) (a : ℕ) → mem a l ≡ true → mem (e a) (map e l) ≡ true
map-mem e [] a m = not_mem_nil a m
map-mem e (x ∷ l) a m =
    ⊎_elim (λ p. subst (λ k. mem k (e x ∷ map e l) ≡ true) (sym (ap e p)) (mem_head (e x) (map e l)))
    (λ q. mem_tail (e a) (e x) (map e l) (map-mem e l a q))
    (mem_cases a x l m)

pub embed_one : (e : ℕ → ℕ) (l m : List ℕ) → distinct m ≡ true → subsequence (map e l) m ≡ true
    → (a b : ℕ) → mem a l ≡ true → mem b l ≡ true → e a ≡ e b → a ≡ b
unfolding subsequence
embed_one e [] m d s a b p q r = not_mem_nil a p
embed_one e (x ∷ l) [] d s a b p q r = clash {b = false} s refl
embed_one e (x ∷ l) (y ∷ m) d s a b p q r =
    ⊎_elim
    (λ (h : (e x ≡ y) × (subsequence (map e l) m ≡ true)).
    ⊎_elim
    (λ (ax : a ≡ x).
    ⊎_elim (λ (bx : b ≡ x). ax ∙ sym bx)
    (λ (bl : mem b l ≡ true).
    clash (subst (λ k. mem k m ≡ true) (sym r ∙ ap e ax ∙ h.0) (sub_mem (map e l) m (e b) h.1 (map-mem e l b bl))) (head_out y m d))
    (mem_cases b x l q))
    (λ (al : mem a l ≡ true).
    ⊎_elim
    (λ (bx : b ≡ x).
    clash (subst (λ k. mem k m ≡ true) (r ∙ ap e bx ∙ h.0) (sub_mem (map e l) m (e a) h.1 (map-mem e l a al))) (head_out y m d))
    (λ (bl : mem b l ≡ true). embed_one e l m (tail_distinct y m d) h.1 a b al bl r)
    (mem_cases b x l q))
    (mem_cases a x l p))
    (λ h. embed_one e (x ∷ l) m (tail_distinct y m d) h.1 a b p q r)
    (sub_cons (e x) y (map e l) m s)

pub embed_before : (e : ℕ → ℕ) (l m : List ℕ) → distinct m ≡ true → subsequence (map e l) m ≡ true
    → (a b : ℕ) → mem b l ≡ true → before l a b ≡ true → before m (e a) (e b) ≡ true
unfolding subsequence before
embed_before e [] m d s a b q h = clash {b = false} h refl
embed_before e (x ∷ l) [] d s a b q h = clash {b = false} s refl
embed_before e (x ∷ l) (y ∷ m) d s a b q h =
    ⊎_elim
    (λ (r : (e x ≡ y) × (subsequence (map e l) m ≡ true)).
    ⊎_elim (λ p. or_l (not (eqb (e b) y) && before m (e a) (e b)) (eq-eqb (e a) y (ap e (eqb-true a x p) ∙ r.0)))
    (λ p.
    let bx : b ≡ x → ⊥ = eqb-false b x (not-true (eqb b x) (and_l (not (eqb b x)) (before l a b) p)) in
    let bl : mem b l ≡ true = ⊎_elim (λ z. absurd (bx z)) (λ z. z) (mem_cases b x l q) in
    or_r (eqb (e a) y)
    (and_i
    (not_i
    (ne_eqb (e b) y
    (λ z. clash (subst (λ k. mem k m ≡ true) z (sub_mem (map e l) m (e b) r.1 (map-mem e l b bl))) (head_out y m d))))
    (embed_before e l m (tail_distinct y m d) r.1 a b bl (and_r (not (eqb b x)) (before l a b) p))))
    (or_cases (eqb a x) (not (eqb b x) && before l a b) h))
    (λ (r : (e x ≡ y → ⊥) × (subsequence (e x ∷ map e l) m ≡ true)).
    or_r (eqb (e a) y)
    (and_i
    (not_i
    (ne_eqb (e b) y
    (λ z. clash (subst (λ k. mem k m ≡ true) z (sub_mem (map e (x ∷ l)) m (e b) r.1 (map-mem e (x ∷ l) b q))) (head_out y m d))))
    (embed_before e (x ∷ l) m (tail_distinct y m d) r.1 a b q h)))
    (sub_cons (e x) y (map e l) m s)
