-- The set without some jobs asks no more than the set.
--   set-job, set-lo, set-hi       == the jobs and the orders of a set written down
--   without-job, without-count, without-lo, without-hi  == the jobs, their number and the orders of the set without some jobs
--   old_part                      == an old number is a job's
--   old_new                       == the old number of a new one is the number itself
--   without_weaker                == jobs left out, the numbers closed up
--   both_weaker                   == besides, budgets lowered and deadlines later
-- Assumes nothing.
use Prim.Native.Nat.{ℕ, zero, suc, ◌+◌, ◌-◌, ◌≤◌, ◌<◌}
use mathlib.Core.Path.{◌≡◌, refl, sym, ◌∙◌, ap, subst}
use mathlib.Core.Bool.{Bool, true}
use mathlib.Core.List.{List, [], ◌∷◌, ◌++◌, map}
use native.Mathlib.Omega.{arith}
use lib.Dec.{eqb}
use lib.ListN.{length, get_or, replicate, length-map, get_or-map}
use Rattle.model.specs.declared.Level.TheVariants.{Lo, Hi}
use Rattle.model.specs.declared.Job.{Job}
use Rattle.model.specs.declared.Set.{Set}
use Rattle.model.specs.Lists.{at, from, numbers, only, mem, cut}
use Rattle.model.specs.Sets.{view, set, blank, job_at, order_of}
use Rattle.theory.specs.Orders.{subsequence}
use Rattle.theory.specs.Weaker.{Weaker}
use Rattle.theory.specs.Eased.{Eased}
use Rattle.theory.specs.Without.{kept, old_number, new_number, closed, without}
use Rattle.laws.proofs.Bools.{split}
use Rattle.laws.proofs.Lists.{only_e}
use Rattle.laws.proofs.Sums.{mem-from}
use Rattle.laws.proofs.Places.{at_in}
use Rattle.laws.proofs.Sound.{Ordered}
use Rattle.theory.proofs.Counting.{get_or-mem}
use Rattle.theory.proofs.Embeddings.{sub_only, map_same, map-map, part_i, part_e, weaker_trans, eased_weaker}

-- lists --------------------------------------------------------------------------------------------------------------------------------

cut_own {ℓ} : {A : Type ℓ} (d : A) (l m : List A) → cut d (length l) (l ++ m) ≡ l
unfolding cut
cut_own d [] m = refl
cut_own d (x ∷ l) m = ap (◌∷◌ x) (cut_own d l m)

at_map {ℓ κ} : {A : Type ℓ} {B : Type κ} (f : A → B) (l : List A) (j : ℕ) (d : A) → at (map f l) j (f d) ≡ f (at l j d)
unfolding at
at_map f l j d = split (eqb j 0) (λ e. rw e refl) (λ n. rw n (get_or-map f l (j - 1) d))

pub at_mem : (l : List ℕ) (j d : ℕ) → 1 ≤ j → j ≤ length l → mem (at l j d) l ≡ true
at_mem l j d p q = rw (at_in l j d p) (get_or-mem l (j - 1) d (omega arith))

-- a set written down -------------------------------------------------------------------------------------------------------------------

pub set-job : (js : List Job) (lo hi : List ℕ) (j : ℕ) → job_at (set js lo hi) j ≡ at js j blank
unfolding job_at set
set-job js lo hi j = rw (cut_own blank js (replicate (64 - length js) blank))

pub set-lo : (js : List Job) (lo hi : List ℕ) → order_of (set js lo hi) Lo ≡ lo
unfolding order_of set
set-lo js lo hi = cut_own 0 lo (replicate (64 - length lo) 0)

pub set-hi : (js : List Job) (lo hi : List ℕ) → order_of (set js lo hi) Hi ≡ hi
unfolding order_of set
set-hi js lo hi = cut_own 0 hi (replicate (64 - length hi) 0)

pub without-lo : (keep : ℕ → Bool) (s : Set) → order_of (without keep s) Lo ≡ closed keep (order_of s Lo)
unfolding without
without-lo keep s = set-lo (map (job_at s) (kept keep s)) (closed keep (order_of s Lo)) (closed keep (order_of s Hi))

pub without-hi : (keep : ℕ → Bool) (s : Set) → order_of (without keep s) Hi ≡ closed keep (order_of s Hi)
unfolding without
without-hi keep s = set-hi (map (job_at s) (kept keep s)) (closed keep (order_of s Lo)) (closed keep (order_of s Hi))

-- old and new numbers ------------------------------------------------------------------------------------------------------------------

-- the entry after those that pass before k + i is k + i, where it passes
only_at : (keep : ℕ → Bool) (k n i : ℕ) → i < n → keep (k + i) ≡ true
    → get_or (only keep (from k n)) (length (only keep (from k i))) 0 ≡ k + i
unfolding only from
only_at keep k zero i h t = absurd (omega arith)
only_at keep k (suc n) zero h t =
    let e : k + 0 ≡ k = omega arith in
    rw (rw e at t) (sym e)
only_at keep k (suc n) (suc i) h t =
    let e : k + suc i ≡ suc k + i = omega arith in
    let r = only_at keep (suc k) n i (omega arith) (rw e at t) in
    split (keep k) (λ p. rw p (r ∙ sym e)) (λ p. rw p (r ∙ sym e))

-- one more passes up to k + i than before it, where it passes
only_one_more : (keep : ℕ → Bool) (k i : ℕ) → keep (k + i) ≡ true
    → length (only keep (from k (suc i))) ≡ suc (length (only keep (from k i)))
unfolding only from
only_one_more keep k zero t = let e : k + 0 ≡ k = omega arith in rw (rw e at t)
only_one_more keep k (suc i) t =
    let r = only_one_more keep (suc k) i (subst (λ n. keep n ≡ true) (omega arith) t) in
    split (keep k) (λ p. rw p (ap suc r)) (λ p. rw p r)

at_suc {ℓ} : {A : Type ℓ} (l : List A) (i : ℕ) (d : A) → at l (suc i) d ≡ get_or l i d
at_suc l i d = at_in l (suc i) d (omega arith) ∙ ap (λ k. get_or l k d) (omega arith)

old_of_new : (keep : ℕ → Bool) (s : Set) (i : ℕ) → i < s.count → keep (suc i) ≡ true → old_number keep s (new_number keep (suc i)) ≡ suc i
unfolding old_number new_number kept numbers
old_of_new keep s i h t =
    let e : 1 + i ≡ suc i = omega arith in
    let k : keep (1 + i) ≡ true = rw e t in
    rw (only_one_more keep 1 i k)
    (at_suc (only keep (from 1 s.count)) (length (only keep (from 1 i))) 0 ∙ only_at keep 1 s.count i h k ∙ e)

pub old_new : (keep : ℕ → Bool) (s : Set) (j : ℕ) → (view s).policy.part j ≡ true → keep j ≡ true → old_number keep s (new_number keep j) ≡ j
old_new keep s zero h t = absurd (omega (arith, part_e s 0 h))
old_new keep s (suc i) h t = old_of_new keep s i (omega (arith, part_e s (suc i) h)) t

pub kept-part : (keep : ℕ → Bool) (s : Set) (j : ℕ) → mem j (kept keep s) ≡ true → (view s).policy.part j ≡ true
unfolding kept numbers
kept-part keep s j m =
    let r = mem-from 1 s.count j (only_e keep (from 1 s.count) j m).0 in
    part_i s j (omega (arith, r)) (omega (arith, r))

pub without-count : (keep : ℕ → Bool) (s : Set) → (without keep s).count ≡ length (kept keep s)
unfolding without set
without-count keep s = length-map (kept keep s) (job_at s)

pub old_part : (keep : ℕ → Bool) (s : Set) (i : ℕ) → (view (without keep s)).policy.part i ≡ true
    → (view s).policy.part (old_number keep s i) ≡ true
unfolding old_number
old_part keep s i h =
    let r = part_e (without keep s) i h in
    kept-part keep s (at (kept keep s) i 0) (at_mem (kept keep s) i 0 r.0 (omega (arith, r, without-count keep s)))

no_job : (s : Set) → job_at s 0 ≡ blank
unfolding job_at at
no_job s = refl

pub without-job : (keep : ℕ → Bool) (s : Set) (i : ℕ) → job_at (without keep s) i ≡ job_at s (old_number keep s i)
unfolding without old_number
without-job keep s i =
    set-job (map (job_at s) (kept keep s)) (closed keep (order_of s Lo)) (closed keep (order_of s Hi)) i
    ∙ rw (← no_job s) (at_map (job_at s) (kept keep s) i 0)

-- Weaker -------------------------------------------------------------------------------------------------------------------------------

-- an order of jobs, closed up, is what is left of it
closed-order : (keep : ℕ → Bool) (s : Set) (l : List ℕ) → ((j : ℕ) → mem j l ≡ true → (view s).policy.part j ≡ true)
    → subsequence (map (old_number keep s) (closed keep l)) l ≡ true
unfolding closed
closed-order keep s l h =
    rw (← map-map (old_number keep s) (new_number keep) (only keep l))
    (rw
    (map_same (λ j. old_number keep s (new_number keep j)) (only keep l)
    (λ j m. let r = only_e keep l j m in old_new keep s j (h j r.0) r.1))
    (sub_only keep l))

pub without_weaker : (keep : ℕ → Bool) (s : Set) → Ordered (view s).policy → Weaker (old_number keep s) (view (without keep s)) (view s)
unfolding view
without_weaker keep s o =
    record {
      job = λ i h. old_part keep s i h;
      arrival = λ i h. ap (λ (a : Job). a.arrival) (without-job keep s i);
      level = λ i h. ap (λ (a : Job). a.level) (without-job keep s i);
      lo = λ i h. omega (arith, ap (λ (a : Job). a.lo) (without-job keep s i));
      hi = λ i h. omega (arith, ap (λ (a : Job). a.hi) (without-job keep s i));
      deadline = λ i h. omega (arith, ap (λ (a : Job). a.deadline) (without-job keep s i));
      lo_order = rw (without-lo keep s) (closed-order keep s (order_of s Lo) o.lo_only);
      hi_order = rw (without-hi keep s) (closed-order keep s (order_of s Hi) (λ j m. (o.hi_only j m).0));
    }

pub both_weaker : (keep : ℕ → Bool) (s' s : Set) → Ordered (view s).policy → Eased s' (without keep s)
    → Weaker (old_number keep s) (view s') (view s)
both_weaker keep s' s o a =
    weaker_trans (old_number keep s) (λ i. i) (view s) (view (without keep s)) (view s') (without_weaker keep s o)
    (eased_weaker s' (without keep s) a)
