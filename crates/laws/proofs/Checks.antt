-- What the checks of document 01 say of a set that passes them, and of a run that does.
--   hi_jobs-mem, hi_jobs_i      == the HI jobs are those of level HI that take part
--   fault-none                  == an order without a fault names only whom it may, and nobody twice
--   first_good, applies-not     == what it says that the first refusal of a list, or one check, is good
--   Passes v                    == each of checks 2 to 7 is good;  checks_pass: so it is where the refusal is good
--   counts_right                == what check 2 says: N from 1 to 64, and the orders' counts
--   view-placed                 == the jobs of a set are places, where N is at most 64
--   passes_sound                == a set that passes checks 2 to 7 is sound
--   in_range_lem, check_run_lem == a run is what gives each job a time of its range
-- Assumes nothing.
use Prim.Native.Nat.{ℕ, suc, ◌≤◌, ◌<◌}
use mathlib.Core.Path.{◌≡◌, refl, sym, ◌∙◌, ap, subst}
use mathlib.Core.Bool.{Bool, true, false, not, cond, ◌&&◌, ◌||◌}
use mathlib.Core.List.{List, [], ◌∷◌}
use mathlib.Core.Logic.{◌↔◌, ⊎_elim}
use native.Mathlib.Omega.{arith}
use lib.Dec.{eqb, leb, ltb}
use lib.ListN.{length}
use borrow.Author.Tests.{eqb-true, eqb-false, not-true, not-false, le-leb}
use Rattle.model.specs.declared.Level.TheVariants.{Lo, Hi}
use Rattle.model.specs.declared.Set.{Set}
use Rattle.model.specs.declared.Refusal.{Refusal}
use Rattle.model.specs.Lists.{from, first, any, mem}
use Rattle.model.specs.Sets.{View, view, order_of, count_of, members, critical, span}
use Rattle.model.specs.Runs.{time, limit, in_range, is_run}
use Rattle.model.specs.Scenarios.{hi_jobs}
use Rattle.model.specs.Refusals.{is_good, applies, placed, first_of, lowest, fault_from, fault, check_count, time_wrong, check_time, budget_wrong, check_budget, check_span, check_lo_order, is_hi_job, check_hi_order, checks, refusal}
use Rattle.laws.proofs.Lists.{distinct}
use Rattle.laws.proofs.Bools.{tests, split, clash, not_i, not_i_false, and_l, and_r, and_i, or_no_l, or_no_r}
use Rattle.laws.proofs.Lists.{any_no, any_none, mem_cases, not_mem_nil, only_i, only_e, first-none}
use Rattle.laws.proofs.Sums.{from-mem}
use Rattle.laws.proofs.Places.{Placed, members_i, members_e, members_nonzero}
use Rattle.laws.proofs.Pigeonhole.{length_from, length_cut, pigeonhole}
use Rattle.laws.proofs.Sound.{Sound}

-- members and HI jobs ----------------------------------------------------------------------------------------------------------------

pub hi_jobs-mem : (v : View) (j : ℕ) → mem j (hi_jobs v) ≡ true → (v.policy.part j ≡ true) × (critical v.policy j ≡ true)
unfolding hi_jobs
hi_jobs-mem v j m =
    let r = only_e (critical v.policy) (members v.policy) j m in (members_e v.policy j r.0, r.1)

pub hi_jobs_i : (v : View) (j : ℕ) → Placed v.policy → v.policy.part j ≡ true → critical v.policy j ≡ true
    → mem j (hi_jobs v) ≡ true
unfolding hi_jobs
hi_jobs_i v j room a k = only_i (critical v.policy) (members v.policy) j (members_i v.policy j room a) k

-- one check --------------------------------------------------------------------------------------------------------------------------

pub first_good : (r : Refusal) (l : List Refusal) → is_good (first_of (r ∷ l)) ≡ true → (is_good r ≡ true) × (is_good (first_of l) ≡ true)
unfolding first_of
first_good r l h = split (is_good r) (λ t. (t, rw t at h)) (λ f. clash (rw f at h) f)

pub applies-not : (n k : ℕ) (b : Bool) → is_good (applies n k b) ≡ true → 1 ≤ n → b ≡ false
unfolding is_good applies
applies-not n k b h s = split b (λ t. absurd (omega (arith, eqb-true n 0 (rw t at h)))) (λ f. f)

placed-not : (n k : ℕ) → is_good (placed n k) ≡ true → 1 ≤ n → k ≡ 0
unfolding placed
placed-not n k h s = eqb-true k 0 (not-false (eqb k 0) (applies-not n k (not (eqb k 0)) h s))

lowest-none : (n : ℕ) (v : View) (bad : ℕ → Bool) → is_good (lowest n v bad) ≡ true → 1 ≤ n → Placed v.policy
    → (j : ℕ) → v.policy.part j ≡ true → bad j ≡ false
unfolding lowest
lowest-none n v bad h s room j a =
    first-none bad (members v.policy) j (members_nonzero v.policy) (placed-not n (first bad (members v.policy)) h s)
    (members_i v.policy j room a)

fault-step : (ok : ℕ → Bool) (seen : List ℕ) (k x : ℕ) (l : List ℕ) → 1 ≤ k → fault_from ok seen k (x ∷ l) ≡ 0
    → (ok x ≡ true) × (mem x seen ≡ false) × (fault_from ok (x ∷ seen) (suc k) l ≡ 0)
unfolding fault_from
fault-step ok seen k x l s h =
    split (ok x && not (mem x seen))
    (λ t. (and_l (ok x) (not (mem x seen)) t, not-true (mem x seen) (and_r (ok x) (not (mem x seen)) t), rw t at h))
    (λ f. absurd (omega (arith, rw f at h)))

unseen : (x : ℕ) (seen : List ℕ) (j : ℕ) → mem j (x ∷ seen) ≡ false → (j ≡ x → ⊥) × (mem j seen ≡ false)
unfolding any mem
unseen x seen j h = (eqb-false j x (or_no_l (eqb j x) (mem j seen) h), or_no_r (eqb j x) (mem j seen) h)

fault_from_lem : (ok : ℕ → Bool) (seen : List ℕ) (k : ℕ) (l : List ℕ) → 1 ≤ k → fault_from ok seen k l ≡ 0
    → (distinct l ≡ true) × ((j : ℕ) → mem j l ≡ true → (ok j ≡ true) × (mem j seen ≡ false))
unfolding distinct
fault_from_lem ok seen k [] s h = (refl, λ j m. not_mem_nil j m)
fault_from_lem ok seen k (x ∷ l) s h =
    let a = fault-step ok seen k x l s h in
    let r = fault_from_lem ok (x ∷ seen) (suc k) l (omega arith) a.2 in (
      and_i (not_i (split (mem x l) (λ m. absurd ((unseen x seen x (r.1 x m).1).0 refl)) (λ n. n))) r.0,
      λ j m.
          ⊎_elim {C = (ok j ≡ true) × (mem j seen ≡ false)}
          (λ e. (ap ok e ∙ a.0, subst (λ i. mem i seen ≡ false) (sym e) a.1))
          (λ n. ((r.1 j n).0, (unseen x seen j (r.1 j n).1).1))
          (mem_cases j x l m),
    )

pub fault-none : (ok : ℕ → Bool) (l : List ℕ) → fault ok l ≡ 0
    → (distinct l ≡ true) × ((j : ℕ) → mem j l ≡ true → ok j ≡ true)
unfolding fault
fault-none ok l h = let r = fault_from_lem ok [] 1 l (omega arith) h in (r.0, λ j m. (r.1 j m).0)

-- the six checks ---------------------------------------------------------------------------------------------------------------------

pub record Passes (v : View) : Type 0 where
  pub count : is_good (check_count v) ≡ true
  pub time : is_good (check_time v) ≡ true
  pub budget : is_good (check_budget v) ≡ true
  pub within : is_good (check_span v) ≡ true
  pub lo_order : is_good (check_lo_order v) ≡ true
  pub hi_order : is_good (check_hi_order v) ≡ true

pub checks_pass : (v : View) → is_good (refusal v) ≡ true → Passes v
unfolding refusal checks
checks_pass v h =
    let a = first_good (check_count v) _ h in
    let b = first_good (check_time v) _ a.1 in
    let c = first_good (check_budget v) _ b.1 in
    let d = first_good (check_span v) _ c.1 in
    let e = first_good (check_lo_order v) _ d.1 in
    let f = first_good (check_hi_order v) _ e.1 in
    record { count = a.0; time = b.0; budget = c.0; within = d.0; lo_order = e.0; hi_order = f.0 }

pub counts_right : (v : View) → is_good (check_count v) ≡ true
    → (1 ≤ v.count) × (v.count ≤ 64) × (v.counts Lo ≡ v.count) × (v.counts Hi ≡ length (hi_jobs v))
unfolding check_count
counts_right v h =
    let n = v.count in
    let lo = eqb (v.counts Lo) n in
    let hi = eqb (v.counts Hi) (length (hi_jobs v)) in
    let a = applies-not 2 n (eqb n 0 || (ltb 64 n || (not lo || not hi))) h (omega arith) in
    let b = or_no_r (eqb n 0) (ltb 64 n || (not lo || not hi)) a in
    let c = or_no_r (ltb 64 n) (not lo || not hi) b in (
      omega (tests, or_no_l (eqb n 0) (ltb 64 n || (not lo || not hi)) a),
      omega (tests, or_no_l (ltb 64 n) (not lo || not hi) b),
      eqb-true (v.counts Lo) n (not-false lo (or_no_l (not lo) (not hi) c)),
      eqb-true (v.counts Hi) (length (hi_jobs v)) (not-false hi (or_no_r (not lo) (not hi) c)),
    )

module _ (v : View) (g : Passes v) where
  span-within : span v ≤ 4096
  unfolding check_span
  span-within = omega (tests, applies-not 5 (span v) (ltb 4096 (span v)) g.within (omega arith))

  lo_order_lem : (distinct (v.policy.order Lo) ≡ true) × ((j : ℕ) → mem j (v.policy.order Lo) ≡ true → v.policy.part j ≡ true)
  unfolding check_lo_order
  lo_order_lem =
      fault-none v.policy.part (v.policy.order Lo)
      (placed-not 6 (fault v.policy.part (v.policy.order Lo)) g.lo_order (omega arith))

  hi_order_lem : (distinct (v.policy.order Hi) ≡ true) × ((j : ℕ) → mem j (v.policy.order Hi) ≡ true → is_hi_job v j ≡ true)
  unfolding check_hi_order
  hi_order_lem =
      fault-none (is_hi_job v) (v.policy.order Hi)
      (placed-not 7 (fault (is_hi_job v) (v.policy.order Hi)) g.hi_order (omega arith))

  hi-only : (j : ℕ) → mem j (v.policy.order Hi) ≡ true → (v.policy.part j ≡ true) × (critical v.policy j ≡ true)
  unfolding is_hi_job
  hi-only j m =
      let r = hi_order_lem.1 j m in
      (and_l (v.policy.part j) (critical v.policy j) r, and_r (v.policy.part j) (critical v.policy j) r)

  module _ (room : Placed v.policy) where
    hi_names_lem : length (hi_jobs v) ≤ length (v.policy.order Hi)
        → (j : ℕ) → v.policy.part j ≡ true → critical v.policy j ≡ true → mem j (v.policy.order Hi) ≡ true
    hi_names_lem n j a k =
        pigeonhole (v.policy.order Hi) (hi_jobs v) hi_order_lem.0
        (λ i m. let r = hi-only i m in hi_jobs_i v i room r.0 r.1)
        n j (hi_jobs_i v j room a k)

    deadlines_after : (j : ℕ) → v.policy.part j ≡ true → v.policy.arrival j < v.deadline j
    unfolding check_time time_wrong
    deadlines_after j a =
        omega (tests, not-false (ltb (v.policy.arrival j) (v.deadline j)) (lowest-none 3 v (time_wrong v) g.time (omega arith) room j a))

    budget_rule : (j : ℕ) → v.policy.part j ≡ true
        → (1 ≤ v.policy.lo j)
        × (critical v.policy j ≡ false → v.policy.lo j ≡ v.hi j)
        × (critical v.policy j ≡ true → v.policy.lo j < v.hi j)
    unfolding check_budget budget_wrong
    budget_rule j a =
        let l = v.policy.lo j in
        let rule = cond (critical v.policy j) (ltb l (v.hi j)) (eqb l (v.hi j)) in
        let r = not-false (leb 1 l && rule) (lowest-none 4 v (budget_wrong v) g.budget (omega arith) room j a) in
        let q = and_r (leb 1 l) rule r in (
          omega (tests, and_l (leb 1 l) rule r),
          λ k. eqb-true l (v.hi j) (rw k at q),
          λ k. omega (tests, rw k at q),
        )

-- a set ------------------------------------------------------------------------------------------------------------------------------

part_is : (s : Set) (j : ℕ) → (view s).policy.part j ≡ true → (1 ≤ j) × (j ≤ (view s).count)
unfolding view
part_is s j a = (omega (tests, and_l (leb 1 j) (leb j s.count) a), omega (tests, and_r (leb 1 j) (leb j s.count) a))

pub view-placed : (s : Set) → (view s).count ≤ 64 → Placed (view s).policy
view-placed s h j a = omega (arith, part_is s j a)

order-length : (s : Set) → (length ((view s).policy.order Lo) ≡ (view s).counts Lo) × (length ((view s).policy.order Hi) ≡ (view s).counts Hi)
unfolding view order_of count_of
order-length s = (length_cut 0 s.lo.count s.lo.entries, length_cut 0 s.hi.count s.hi.entries)

lo_names_lem : (s : Set) → Passes (view s) → (j : ℕ) → (view s).policy.part j ≡ true → mem j ((view s).policy.order Lo) ≡ true
lo_names_lem s g j a =
    pigeonhole ((view s).policy.order Lo) (from 1 (view s).count) (lo_order_lem (view s) g).0
    (λ i m. number i ((lo_order_lem (view s) g).1 i m))
    (omega (arith, length_from 1 (view s).count, order-length s, counts_right (view s) g.count))
    j (number j a)
  where
    number : (i : ℕ) → (view s).policy.part i ≡ true → mem i (from 1 (view s).count) ≡ true
    number i b = from-mem 1 (view s).count i (part_is s i b).0 (omega (arith, part_is s i b))

pub passes_sound : (s : Set) → is_good (refusal (view s)) ≡ true → Sound (view s)
passes_sound s h =
    let v = view s in
    let g = checks_pass v h in
    let n = counts_right v g.count in
    let room = view-placed s n.1 in
    let lo = lo_order_lem v g in
    let budget = budget_rule v g room in
    record {
      ordered =
          record {
            room = room;
            lo_names = lo_names_lem s g;
            lo_only = lo.1;
            lo_once = lo.0;
            hi_names = hi_names_lem v g room (omega (arith, order-length s, n.3));
            hi_only = hi-only v g;
            hi_once = (hi_order_lem v g).0;
          };
      timely = deadlines_after v g room;
      some = λ j a. (budget j a).0;
      equal = λ j a. (budget j a).1;
      above = λ j a. (budget j a).2;
      bounded = span-within v g;
    }

-- a run ------------------------------------------------------------------------------------------------------------------------------

pub in_range_lem : (v : View) (c : List ℕ) (j : ℕ) → (in_range v c j ≡ true) ↔ ((1 ≤ time c j) × (time c j ≤ limit v j))
unfolding in_range
in_range_lem v c j = (
  λ h. (
    omega (tests, and_l (leb 1 (time c j)) (leb (time c j) (limit v j)) h),
    omega (tests, and_r (leb 1 (time c j)) (leb (time c j) (limit v j)) h),
  ),
  λ r. and_i (le-leb 1 (time c j) r.0) (le-leb (time c j) (limit v j) r.1),
)

pub check_run_lem : (v : View) (c : List ℕ) → Placed v.policy
    → (is_run v c ≡ true) ↔ ((j : ℕ) → v.policy.part j ≡ true → (1 ≤ time c j) × (time c j ≤ limit v j))
unfolding is_run
check_run_lem v c room = (
  λ h j a.
      (in_range_lem v c j).0
      (not-false (in_range v c j)
      (any_no outside (members v.policy) j (not-true (any outside (members v.policy)) h) (members_i v.policy j room a))),
  λ r. not_i
      (any_none outside (members v.policy) (λ j m. not_i_false ((in_range_lem v c j).1 (r j (members_e v.policy j m))))),
)
  where
    outside : ℕ → Bool
    outside j = not (in_range v c j)
