-- A sound set that has a job passes checks 2 to 7.
--   lowest_no                    == a check that no job fails is good
--   sound_passes                 == no refusal
--   without_passes               == nor one for the set without some jobs, where a job stays
-- Assumes nothing.
use Prim.Native.Nat.{ℕ, suc, ◌≤◌}
use mathlib.Core.Path.{◌≡◌, refl, sym, ◌∙◌, subst}
use mathlib.Core.Bool.{Bool, true, false}
use mathlib.Core.List.{List, [], ◌∷◌}
use native.Mathlib.Omega.{arith}
use lib.ListN.{length}
use borrow.Author.Tests.{eq-eqb, ne_eqb, lt-ltb, le-ltb, le-leb}
use Rattle.model.specs.declared.Level.TheVariants.{Lo, Hi}
use Rattle.model.specs.declared.Set.{Set}
use Rattle.model.specs.Lists.{from, first, any, mem}
use Rattle.model.specs.Sets.{View, view, critical, members, span, order_of, count_of}
use Rattle.model.specs.Scenarios.{hi_jobs}
use Rattle.model.specs.Refusals.{good, is_good, applies, placed, first_of, lowest, fault_from, fault, check_count, time_wrong, check_time, budget_wrong, check_budget, check_span, check_lo_order, is_hi_job, check_hi_order, checks, refusal}
use Rattle.laws.proofs.Lists.{distinct}
use Rattle.theory.specs.Without.{new_number, without}
use Rattle.laws.proofs.Bools.{split, clash, not_i, not_i_false, and_i, or_i_no}
use Rattle.laws.proofs.Lists.{mem_head, mem_tail, only_i, only_e, first_zero}
use Rattle.laws.proofs.Sums.{from-mem, mem-from, from-distinct, only-distinct}
use Rattle.laws.proofs.Lists.{head_out, tail_distinct}
use Rattle.laws.proofs.Places.{members_i, members_e, members-distinct}
use Rattle.laws.proofs.Sound.{Ordered, Sound}
use Rattle.theory.proofs.Counting.{same_length}
use Rattle.laws.proofs.Pigeonhole.{length_from, length_cut}
use Rattle.theory.proofs.Embeddings.{part_i, part_e}
use Rattle.theory.proofs.Kept.{new_part, without-sound}

applies_no : (n k : ℕ) {b : Bool} → b ≡ false → applies n k b ≡ good
unfolding applies
applies_no n k {b} e = rw e

pub lowest_no : (n : ℕ) (v : View) (bad : ℕ → Bool) → ((j : ℕ) → v.policy.part j ≡ true → bad j ≡ false) → lowest n v bad ≡ good
unfolding lowest placed
lowest_no n v bad h =
    applies_no n (first bad (members v.policy))
    (not_i_false (eq-eqb (first bad (members v.policy)) 0 (first_zero bad (members v.policy) (λ j m. h j (members_e v.policy j m)))))

-- who stands in the rest of a list without repetition is not seen yet, the head included
unseen : (seen : List ℕ) (x : ℕ) (l : List ℕ) (j : ℕ) → distinct (x ∷ l) ≡ true → mem j seen ≡ false → mem j l ≡ true
    → mem j (x ∷ seen) ≡ false
unfolding any mem
unseen seen x l j d n m = or_i_no (ne_eqb j x (λ e. clash (subst (λ k. mem k l ≡ true) e m) (head_out x l d))) n

fault_from_lem : (ok : ℕ → Bool) (seen : List ℕ) (k : ℕ) (l : List ℕ) → distinct l ≡ true → ((j : ℕ) → mem j l ≡ true → ok j ≡ true)
    → ((j : ℕ) → mem j l ≡ true → mem j seen ≡ false) → fault_from ok seen k l ≡ 0
unfolding fault_from
fault_from_lem ok seen k [] d h n = refl
fault_from_lem ok seen k (x ∷ l) d h n =
    rw (and_i (h x (mem_head x l)) (not_i (n x (mem_head x l))))
    (fault_from_lem ok (x ∷ seen) (suc k) l (tail_distinct x l d) (λ j m. h j (mem_tail j x l m))
    (λ j m. unseen seen x l j d (n j (mem_tail j x l m)) m))

fault_no : (n : ℕ) (ok : ℕ → Bool) (l : List ℕ) → distinct l ≡ true → ((j : ℕ) → mem j l ≡ true → ok j ≡ true)
    → placed n (fault ok l) ≡ good
unfolding placed fault any mem
fault_no n ok l d h = applies_no n (fault ok l) (not_i_false (eq-eqb (fault ok l) 0 (fault_from_lem ok [] 1 l d h (λ j m. refl))))

-- the counts of the orders -------------------------------------------------------------------------------------------------------------

part-numbers : (s : Set) (j : ℕ) → (view s).policy.part j ≡ true → mem j (from 1 s.count) ≡ true
part-numbers s j h = let r = part_e s j h in from-mem 1 s.count j r.0 (omega (arith, r))

numbers-part : (s : Set) (j : ℕ) → mem j (from 1 s.count) ≡ true → (view s).policy.part j ≡ true
numbers-part s j m = let r = mem-from 1 s.count j m in part_i s j r.0 (omega (arith, r))

count-lo : (s : Set) → Ordered (view s).policy → count_of s Lo ≡ s.count
unfolding view order_of count_of
count-lo s o =
    sym (length_cut 0 s.lo.count s.lo.entries)
    ∙ same_length (order_of s Lo) (from 1 s.count) o.lo_once (from-distinct 1 s.count)
    (λ j m. part-numbers s j (o.lo_only j m))
    (λ j m. o.lo_names j (numbers-part s j m))
    ∙ length_from 1 s.count

hi-job : (v : View) → Ordered v.policy → (j : ℕ) → mem j (v.policy.order Hi) ≡ true → mem j (hi_jobs v) ≡ true
unfolding hi_jobs
hi-job v o j m =
    let r = o.hi_only j m in
    only_i (critical v.policy) (members v.policy) j (members_i v.policy j o.room r.0) r.1

job-hi : (v : View) → Ordered v.policy → (j : ℕ) → mem j (hi_jobs v) ≡ true → mem j (v.policy.order Hi) ≡ true
unfolding hi_jobs
job-hi v o j m =
    let r = only_e (critical v.policy) (members v.policy) j m in
    o.hi_names j (members_e v.policy j r.0) r.1

hi_jobs-distinct : (v : View) → distinct (hi_jobs v) ≡ true
unfolding hi_jobs
hi_jobs-distinct v = only-distinct (critical v.policy) (members v.policy) (members-distinct v.policy)

count-hi : (s : Set) → Ordered (view s).policy → count_of s Hi ≡ length (hi_jobs (view s))
unfolding view order_of count_of
count-hi s o =
    sym (length_cut 0 s.hi.count s.hi.entries)
    ∙ same_length (order_of s Hi) (hi_jobs (view s)) o.hi_once (hi_jobs-distinct (view s)) (hi-job (view s) o) (job-hi (view s) o)

-- the checks ---------------------------------------------------------------------------------------------------------------------------

count-good : (s : Set) → 1 ≤ s.count → Ordered (view s).policy → check_count (view s) ≡ good
unfolding check_count view
count-good s h o =
    let few = (o.room s.count (part_i s s.count h (omega arith))).1 in
    applies_no 2 s.count
    (or_i_no (ne_eqb s.count 0 (omega arith))
    (or_i_no (le-ltb 64 s.count few)
    (or_i_no (not_i_false (eq-eqb (count_of s Lo) s.count (count-lo s o)))
    (not_i_false (eq-eqb (count_of s Hi) (length (hi_jobs (view s))) (count-hi s o))))))

module _ (v : View) (o : Sound v) where
  time-good : check_time v ≡ good
  unfolding check_time time_wrong
  time-good = lowest_no 3 v (time_wrong v) (λ j h. not_i_false (lt-ltb (v.policy.arrival j) (v.deadline j) (o.timely j h)))

  budget_right : (j : ℕ) → v.policy.part j ≡ true → budget_wrong v j ≡ false
  unfolding budget_wrong
  budget_right j h =
      not_i_false
      (and_i (le-leb 1 (v.policy.lo j) (o.some j h))
      (split (critical v.policy j)
      (λ c. rw c (lt-ltb (v.policy.lo j) (v.hi j) (o.above j h c)))
      (λ c. rw c (eq-eqb (v.policy.lo j) (v.hi j) (o.equal j h c)))))

  budget_good : check_budget v ≡ good
  unfolding check_budget
  budget_good = lowest_no 4 v (budget_wrong v) budget_right

  span-good : check_span v ≡ good
  unfolding check_span
  span-good = applies_no 5 (span v) (le-ltb 4096 (span v) o.bounded)

  lo-good : check_lo_order v ≡ good
  unfolding check_lo_order
  lo-good = fault_no 6 v.policy.part (v.policy.order Lo) o.ordered.lo_once o.ordered.lo_only

  hi-good : check_hi_order v ≡ good
  unfolding check_hi_order is_hi_job
  hi-good =
      fault_no 7 (is_hi_job v) (v.policy.order Hi) o.ordered.hi_once
      (λ j m. let r = o.ordered.hi_only j m in and_i r.0 r.1)

pub sound_passes : (s : Set) → 1 ≤ s.count → Sound (view s) → refusal (view s) ≡ good
unfolding refusal checks first_of is_good good
sound_passes s h o =
    let v = view s in
    rw (count-good s h o.ordered, time-good v o, budget_good v o, span-good v o, lo-good v o, hi-good v o)

pub without_passes : (keep : ℕ → Bool) (s : Set) → Sound (view s) → (j : ℕ) → (view s).policy.part j ≡ true → keep j ≡ true
    → refusal (view (without keep s)) ≡ good
without_passes keep s o j h t =
    sound_passes (without keep s)
    (omega (arith, part_e (without keep s) (new_number keep j) (new_part keep s j h t)))
    (without-sound keep s o)
