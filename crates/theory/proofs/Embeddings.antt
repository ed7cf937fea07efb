-- Sub-sequences, and sets that ask no more by them.
--   sub_refl, sub_tail, sub_skip, sub_trans  == sub-sequences of a list itself, of a longer one, of a sub-sequence
--   sub_map, sub_only            == both renumbered; the entries that pass a test
--   map_same, map-map            == renumbering that changes nothing; renumbering twice
--   weaker_refl, weaker_trans    == a set asks no more than itself; embeddings compose
--   part_i, part_e               == the jobs of a struct are 1 to N
--   eased_weaker                 == budgets lowered and deadlines later ask no more
-- Assumes nothing.
use Prim.Native.Nat.{ℕ, ◌≤◌}
use mathlib.Core.Path.{◌≡◌, refl, sym, ◌∙◌, ap}
use mathlib.Core.Bool.{Bool, true, false}
use mathlib.Core.List.{List, [], ◌∷◌, map}
use mathlib.Core.Logic.{⊎_elim}
use native.Mathlib.Omega.{arith}
use lib.Dec.{eqb, leb}
use borrow.Author.Tests.{eq-eqb, ne_eqb, eqb-true, eqb-false, leb-true, le-leb}
use Rattle.model.specs.declared.Level.TheVariants.{Lo, Hi}
use Rattle.model.specs.declared.Set.{Set}
use Rattle.model.specs.Lists.{only, mem}
use Rattle.model.specs.Sets.{View, view, job_at, order_of}
use Rattle.theory.specs.Orders.{subsequence}
use Rattle.theory.specs.Weaker.{Weaker}
use Rattle.theory.specs.Eased.{EasedJob, Eased}
use Rattle.laws.proofs.Bools.{split, clash, and_l, and_r, and_i}
use Rattle.laws.proofs.Lists.{mem_head, mem_tail}
use Rattle.theory.proofs.Orders.{sub_cons}

-- sub-sequences ----------------------------------------------------------------------------------------------------------------------

sub_hit : (x y : ℕ) (l m : List ℕ) → x ≡ y → subsequence l m ≡ true → subsequence (x ∷ l) (y ∷ m) ≡ true
unfolding subsequence
sub_hit x y l m e h = rw (eq-eqb x y e) h

sub_miss : (x y : ℕ) (l m : List ℕ) → (x ≡ y → ⊥) → subsequence (x ∷ l) m ≡ true → subsequence (x ∷ l) (y ∷ m) ≡ true
unfolding subsequence
sub_miss x y l m n h = rw (ne_eqb x y n) h

sub_nil : (m : List ℕ) → subsequence [] m ≡ true
unfolding subsequence
sub_nil m = refl

sub_none {ℓ} : {P : Type ℓ} (x : ℕ) (l : List ℕ) → subsequence (x ∷ l) [] ≡ true → P
unfolding subsequence
sub_none x l h = clash {b = false} h refl

pub sub_refl : (l : List ℕ) → subsequence l l ≡ true
sub_refl [] = sub_nil []
sub_refl (x ∷ l) = sub_hit x x l l refl (sub_refl l)

-- sub_skip, for one whose tails are sub-sequences too
skip_by : (y : ℕ) (l m : List ℕ) → ((x : ℕ) (k : List ℕ) → subsequence (x ∷ k) m ≡ true → subsequence k m ≡ true)
    → subsequence l m ≡ true → subsequence l (y ∷ m) ≡ true
skip_by y [] m t h = sub_nil (y ∷ m)
skip_by y (x ∷ l) m t h =
    split (eqb x y) (λ e. sub_hit x y l m (eqb-true x y e) (t x l h)) (λ n. sub_miss x y l m (eqb-false x y n) h)

pub sub_tail : (x : ℕ) (l m : List ℕ) → subsequence (x ∷ l) m ≡ true → subsequence l m ≡ true
sub_tail x l [] h = sub_none x l h
sub_tail x l (y ∷ m) h =
    let t : (x : ℕ) (k : List ℕ) → subsequence (x ∷ k) m ≡ true → subsequence k m ≡ true = λ x k. sub_tail x k m in
    ⊎_elim (λ r. skip_by y l m t r.1) (λ r. skip_by y l m t (sub_tail x l m r.1)) (sub_cons x y l m h)

pub sub_skip : (y : ℕ) (l m : List ℕ) → subsequence l m ≡ true → subsequence l (y ∷ m) ≡ true
sub_skip y l m h = skip_by y l m (λ x k. sub_tail x k m) h

pub sub_trans : (l m n : List ℕ) → subsequence l m ≡ true → subsequence m n ≡ true → subsequence l n ≡ true
sub_trans [] m n p q = sub_nil n
sub_trans (x ∷ l) [] n p q = sub_none x l p
sub_trans (x ∷ l) (y ∷ m) [] p q = sub_none y m q
sub_trans (x ∷ l) (y ∷ m) (z ∷ n) p q =
    ⊎_elim
    (λ (s : (y ≡ z) × (subsequence m n ≡ true)).
    ⊎_elim (λ r. sub_hit x z l n (r.0 ∙ s.0) (sub_trans l m n r.1 s.1))
    (λ r. sub_miss x z l n (λ e. r.0 (e ∙ sym s.0)) (sub_trans (x ∷ l) m n r.1 s.1))
    (sub_cons x y l m p))
    (λ s. sub_skip z (x ∷ l) n (sub_trans (x ∷ l) (y ∷ m) n p s.1))
    (sub_cons y z m n q)

pub sub_map : (e : ℕ → ℕ) (l m : List ℕ) → subsequence l m ≡ true → subsequence (map e l) (map e m) ≡ true
sub_map e [] m h = sub_nil (map e m)
sub_map e (x ∷ l) [] h = sub_none x l h
sub_map e (x ∷ l) (y ∷ m) h =
    ⊎_elim (λ r. sub_hit (e x) (e y) (map e l) (map e m) (ap e r.0) (sub_map e l m r.1))
    (λ r. sub_skip (e y) (map e (x ∷ l)) (map e m) (sub_map e (x ∷ l) m r.1))
    (sub_cons x y l m h)

pub sub_only : (test : ℕ → Bool) (l : List ℕ) → subsequence (only test l) l ≡ true
unfolding only
sub_only test [] = sub_nil []
sub_only test (x ∷ l) =
    split (test x)
    (λ t. rw t (sub_hit x x (only test l) l refl (sub_only test l)))
    (λ f. rw f (sub_skip x (only test l) l (sub_only test l)))

pub map_same : (e : ℕ → ℕ) (l : List ℕ) → ((j : ℕ) → mem j l ≡ true → e j ≡ j) → map e l ≡ l
map_same e [] h = refl
map_same e (x ∷ l) h = rw (h x (mem_head x l), map_same e l (λ j m. h j (mem_tail j x l m)))

pub map-map : (e f : ℕ → ℕ) (l : List ℕ) → map (λ i. e (f i)) l ≡ map e (map f l)
map-map e f [] = refl
map-map e f (x ∷ l) = ap (◌∷◌ (e (f x))) (map-map e f l)

-- Weaker -----------------------------------------------------------------------------------------------------------------------------

same-order : (l m : List ℕ) → l ≡ m → subsequence (map (λ i. i) l) m ≡ true
same-order l m e = rw (map_same (λ i. i) l (λ j n. refl), e) (sub_refl m)

orders_trans : (e f : ℕ → ℕ) (l m n : List ℕ) → subsequence (map e m) n ≡ true → subsequence (map f l) m ≡ true
    → subsequence (map (λ i. e (f i)) l) n ≡ true
orders_trans e f l m n p q = rw (map-map e f l) (sub_trans (map e (map f l)) (map e m) n (sub_map e (map f l) m q) p)

pub weaker_refl : (v : View) → Weaker (λ i. i) v v
weaker_refl v =
    record {
      job = λ i h. h;
      arrival = λ i h. refl;
      level = λ i h. refl;
      lo = λ i h. omega arith;
      hi = λ i h. omega arith;
      deadline = λ i h. omega arith;
      lo_order = same-order (v.policy.order Lo) (v.policy.order Lo) refl;
      hi_order = same-order (v.policy.order Hi) (v.policy.order Hi) refl;
    }

pub weaker_trans : (e f : ℕ → ℕ) (v w x : View) → Weaker e w v → Weaker f x w → Weaker (λ i. e (f i)) x v
weaker_trans e f v w x a b =
    record {
      job = λ i h. a.job (f i) (b.job i h);
      arrival = λ i h. b.arrival i h ∙ a.arrival (f i) (b.job i h);
      level = λ i h. b.level i h ∙ a.level (f i) (b.job i h);
      lo = λ i h. omega (arith, b.lo i h, a.lo (f i) (b.job i h));
      hi = λ i h. omega (arith, b.hi i h, a.hi (f i) (b.job i h));
      deadline = λ i h. omega (arith, b.deadline i h, a.deadline (f i) (b.job i h));
      lo_order = orders_trans e f (x.policy.order Lo) (w.policy.order Lo) (v.policy.order Lo) a.lo_order b.lo_order;
      hi_order = orders_trans e f (x.policy.order Hi) (w.policy.order Hi) (v.policy.order Hi) a.hi_order b.hi_order;
    }

pub part_i : (s : Set) (j : ℕ) → 1 ≤ j → j ≤ s.count → (view s).policy.part j ≡ true
unfolding view
part_i s j p q = and_i (le-leb 1 j p) (le-leb j s.count q)

pub part_e : (s : Set) (j : ℕ) → (view s).policy.part j ≡ true → (1 ≤ j) × (j ≤ s.count)
unfolding view
part_e s j h = (leb-true 1 j (and_l (leb 1 j) (leb j s.count) h), leb-true j s.count (and_r (leb 1 j) (leb j s.count) h))

eased_job : (s' s : Set) → Eased s' s → (j : ℕ) → (view s').policy.part j ≡ true → EasedJob (job_at s' j) (job_at s j)
eased_job s' s a j h = let r = part_e s' j h in a.job j r.0 (omega (arith, r, a.count))

pub eased_weaker : (s' s : Set) → Eased s' s → Weaker (λ i. i) (view s') (view s)
unfolding view
eased_weaker s' s a =
    record {
      job = λ j h. let r = part_e s' j h in part_i s j r.0 (omega (arith, r, a.count));
      arrival = λ j h. (eased_job s' s a j h).arrival;
      level = λ j h. (eased_job s' s a j h).level;
      lo = λ j h. (eased_job s' s a j h).lo;
      hi = λ j h. (eased_job s' s a j h).hi;
      deadline = λ j h. (eased_job s' s a j h).deadline;
      lo_order = same-order (order_of s' Lo) (order_of s Lo) a.lo_order;
      hi_order = same-order (order_of s' Hi) (order_of s Hi) a.hi_order;
    }
