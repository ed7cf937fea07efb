-- Lists in which no entry repeats, compared by their entries; and the span of a set that asks no more.
--   total_sub                    == where all entries of a list stand in another, its sum is no larger
--   same_length                  == two with the same entries are equally long
--   map_e, map-distinct          == an entry of a list renumbered; renumbered one-to-one, none repeats
--   get_or-mem, get_or_one       == what stands at a place is an entry, and stands at no other
--   weaker_one, weaker_span      == the embedding is one-to-one; the span is no larger
-- Assumes nothing.
use Prim.Native.Nat.{ℕ, zero, suc, ◌+◌, ◌≤◌, ◌<◌}
use mathlib.Core.Path.{◌≡◌, refl, sym, ap, subst}
use mathlib.Core.Bool.{Bool, true, false, not}
use mathlib.Core.List.{List, [], ◌∷◌, map}
use mathlib.Core.Logic.{⊎_elim}
use native.Mathlib.Omega.{arith}
use lib.Dec.{eqb}
use lib.ListN.{length, get_or}
use borrow.Author.Tests.{ne_eqb, eqb-true, eqb-false}
use Rattle.model.specs.declared.Level.TheVariants.{Lo}
use Rattle.model.specs.Lists.{only, mem, total, largest}
use Rattle.model.specs.Sets.{View, members, span}
use Rattle.laws.proofs.Lists.{distinct}
use Rattle.theory.specs.Weaker.{Weaker}
use Rattle.laws.proofs.Bools.{split, clash, not_i, not_i_false, and_i}
use Rattle.laws.proofs.Lists.{mem_head, mem_tail, mem_cases, not_mem_nil, only_i}
use Rattle.laws.proofs.Sums.{total_le, largest_le}
use Rattle.laws.proofs.Lists.{head_out, tail_distinct}
use Rattle.theory.proofs.Orders.{embed_one}
use Rattle.laws.proofs.Places.{members_i, members_e, members-distinct}
use Rattle.laws.proofs.Sound.{Ordered}

-- sums ---------------------------------------------------------------------------------------------------------------------------------

other : ℕ → ℕ → Bool
other x k = not (eqb k x)

total-only : (f : ℕ → ℕ) (test : ℕ → Bool) (l : List ℕ) → total f (only test l) ≤ total f l
unfolding only total
total-only f test [] = omega arith
total-only f test (x ∷ l) =
    let r = total-only f test l in split (test x) (λ t. rw t (omega (arith, r))) (λ n. rw n (omega (arith, r)))

-- one entry, and all that differ from it
total_apart : (f : ℕ → ℕ) (x : ℕ) (m : List ℕ) → mem x m ≡ true → f x + total f (only (other x) m) ≤ total f m
unfolding only total other
total_apart f x [] h = not_mem_nil x h
total_apart f x (y ∷ m) h =
    split (eqb y x)
    (λ e. let z : f y ≡ f x = ap f (eqb-true y x e) in rw (not_i_false e) (omega (arith, total-only f (other x) m)))
    (λ n.
    let in-m : mem x m ≡ true = ⊎_elim (λ p. absurd (eqb-false y x n (sym p))) (λ q. q) (mem_cases x y m h) in
    rw (not_i n) (omega (arith, total_apart f x m in-m)))

pub total_sub : (f : ℕ → ℕ) (l m : List ℕ) → distinct l ≡ true → ((j : ℕ) → mem j l ≡ true → mem j m ≡ true) → total f l ≤ total f m
unfolding total other
total_sub f [] m d h = omega arith
total_sub f (x ∷ l) m d h =
    let apart : (j : ℕ) → mem j l ≡ true → other x j ≡ true =
    λ j n. not_i (ne_eqb j x (λ e. clash (subst (λ k. mem k l ≡ true) e n) (head_out x l d))) in
    omega (
      arith,
      total_apart f x m (h x (mem_head x l)),
      total_sub f l (only (other x) m) (tail_distinct x l d) (λ j n. only_i (other x) m j (h j (mem_tail j x l n)) (apart j n)),
    )

total-ones : (l : List ℕ) → total (λ j. 1) l ≡ length l
unfolding total
total-ones [] = refl
total-ones (x ∷ l) = omega (arith, total-ones l)

pub same_length : (l m : List ℕ) → distinct l ≡ true → distinct m ≡ true → ((j : ℕ) → mem j l ≡ true → mem j m ≡ true)
    → ((j : ℕ) → mem j m ≡ true → mem j l ≡ true) → length l ≡ length m
same_length l m d c p q =
    omega (arith, total-ones l, total-ones m, total_sub (λ j. 1) l m d p, total_sub (λ j. 1) m l c q)

total-map : (f e : ℕ → ℕ) (l : List ℕ) → total f (map e l) ≡ total (λ i. f (e i)) l
unfolding total
total-map f e [] = refl
total-map f e (x ∷ l) = omega (arith, total-map f e l)

largest_bound : (f : ℕ → ℕ) (l : List ℕ) (b : ℕ) → ((j : ℕ) → mem j l ≡ true → f j ≤ b) → largest f l ≤ b
unfolding largest
largest_bound f [] b h = omega arith
largest_bound f (x ∷ l) b h = omega (arith, h x (mem_head x l), largest_bound f l b (λ j m. h j (mem_tail j x l m)))

-- lists renumbered ---------------------------------------------------------------------------------------------------------------------

pub map_e : (e : ℕ → ℕ) (l : List ℕ) (b : ℕ) → mem b (map e l) ≡ true → (a : ℕ) × (mem a l ≡ true) × (b ≡ e a)
map_e e [] b m = not_mem_nil b m
map_e e (x ∷ l) b m =
    ⊎_elim {C = (a : ℕ) × (mem a (x ∷ l) ≡ true) × (b ≡ e a)}
    (λ p. (x, mem_head x l, p))
    (λ q. let r = map_e e l b q in (r.0, mem_tail r.0 x l r.1, r.2))
    (mem_cases b (e x) (map e l) m)

pub map-distinct : (e : ℕ → ℕ) (l : List ℕ) → distinct l ≡ true
    → ((a b : ℕ) → mem a l ≡ true → mem b l ≡ true → e a ≡ e b → a ≡ b) → distinct (map e l) ≡ true
unfolding distinct
map-distinct e [] d h = refl
map-distinct e (x ∷ l) d h =
    let fresh : mem (e x) (map e l) ≡ false =
    split (mem (e x) (map e l))
    (λ m.
    let r = map_e e l (e x) m in
    let z : x ≡ r.0 = h x r.0 (mem_head x l) (mem_tail r.0 x l r.1) r.2 in
    clash (subst (λ k. mem k l ≡ true) (sym z) r.1) (head_out x l d))
    (λ n. n) in
    and_i (not_i fresh) (map-distinct e l (tail_distinct x l d) (λ a b p q. h a b (mem_tail a x l p) (mem_tail b x l q)))

pub get_or-mem : (l : List ℕ) (i d : ℕ) → i < length l → mem (get_or l i d) l ≡ true
get_or-mem [] i d h = absurd (omega arith)
get_or-mem (x ∷ l) zero d h = mem_head x l
get_or-mem (x ∷ l) (suc i) d h = mem_tail (get_or l i d) x l (get_or-mem l i d (omega arith))

pub get_or_one : (l : List ℕ) (i j d : ℕ) → distinct l ≡ true → i < length l → j < length l → get_or l i d ≡ get_or l j d → i ≡ j
get_or_one [] i j d c p q e = absurd (omega arith)
get_or_one (x ∷ l) zero zero d c p q e = refl
get_or_one (x ∷ l) zero (suc j) d c p q e =
    clash (subst (λ k. mem k l ≡ true) (sym e) (get_or-mem l j d (omega arith))) (head_out x l c)
get_or_one (x ∷ l) (suc i) zero d c p q e =
    clash (subst (λ k. mem k l ≡ true) e (get_or-mem l i d (omega arith))) (head_out x l c)
get_or_one (x ∷ l) (suc i) (suc j) d c p q e =
    ap suc (get_or_one l i j d (tail_distinct x l c) (omega arith) (omega arith) e)

-- the span -----------------------------------------------------------------------------------------------------------------------------

module _ (e : ℕ → ℕ) (w v : View) (wo : Ordered w.policy) (vo : Ordered v.policy) (a : Weaker e w v) where
  pub weaker_one : (i k : ℕ) → w.policy.part i ≡ true → w.policy.part k ≡ true → e i ≡ e k → i ≡ k
  weaker_one i k p q =
      embed_one e (w.policy.order Lo) (v.policy.order Lo) vo.lo_once a.lo_order i k (wo.lo_names i p) (wo.lo_names k q)

  weaker_mem : (j : ℕ) → mem j (map e (members w.policy)) ≡ true → mem j (members v.policy) ≡ true
  weaker_mem j m =
      let r = map_e e (members w.policy) j m in
      members_i v.policy j vo.room (rw r.2 (a.job r.0 (members_e w.policy r.0 r.1)))

  weaker_total : total w.hi (members w.policy) ≤ total v.hi (members v.policy)
  weaker_total =
      let one : distinct (map e (members w.policy)) ≡ true =
      map-distinct e (members w.policy) (members-distinct w.policy)
      (λ i k m n. weaker_one i k (members_e w.policy i m) (members_e w.policy k n)) in
      omega (
        arith,
        total_le w.hi (λ i. v.hi (e i)) (members w.policy) (λ i m. a.hi i (members_e w.policy i m)),
        total-map v.hi e (members w.policy),
        total_sub v.hi (map e (members w.policy)) (members v.policy) one weaker_mem,
      )

  weaker_largest : largest w.policy.arrival (members w.policy) ≤ largest v.policy.arrival (members v.policy)
  weaker_largest =
      largest_bound w.policy.arrival (members w.policy) (largest v.policy.arrival (members v.policy))
      (λ i m.
      let p = members_e w.policy i m in
      omega (
        arith,
        a.arrival i p,
        largest_le v.policy.arrival (members v.policy) (e i) (members_i v.policy (e i) vo.room (a.job i p)),
      ))

  pub weaker_span : span w ≤ span v
  unfolding span
  weaker_span = omega (arith, weaker_largest, weaker_total)
