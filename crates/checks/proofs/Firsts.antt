-- The first refusal of a list of checks, found one after the other.
--   alone       == a single check's refusal is the first of its list
--   taken       == a refusal that the first checks give is the first of all;  passed: where they give none, the others decide
--   counts_fit  == what check 2 says of a set that passes it
--   count_is, time_is, budget_is, lo_is, hi_is  == what the code finds is what checks 2, 3, 4, 6 and 7 say
-- Assumes nothing.
use Prim.Native.Nat.{ℕ, zero, suc, ◌≤◌, min}
use mathlib.Core.Path.{◌≡◌, refl, ◌∙◌, ap}
use mathlib.Core.Bool.{Bool, cond}
use mathlib.Core.List.{List, [], ◌∷◌, ◌++◌}
use native.Mathlib.Omega.{arith}
use borrow.Author.Tests.{ne_eqb}
use Rattle.model.specs.declared.Refusal.{Refusal}
use Rattle.model.specs.declared.Set.{Set}
use Rattle.model.specs.declared.Level.TheVariants.{Lo, Hi}
use Rattle.model.specs.Lists.{first, cut}
use Rattle.model.specs.Sets.{is_hi, job_at, critical, view, count_of, members, order_of}
use Rattle.model.specs.Refusals.{good, is_good, checked, applies, placed, first_of, lowest, fault, check_count, time_wrong, check_time, budget_wrong, check_budget, check_lo_order, is_hi_job, check_hi_order, refused}
use Rattle.rules.specs.Rules.{untimely, unbudgeted, may_stand, marked, nonzero}
use Rattle.laws.proofs.Bools.{split}
use Rattle.laws.proofs.Members.{hi_jobs_most}
use Rattle.laws.proofs.Checks.{counts_right}
use Rattle.rules.proofs.Laws.{and_true}
use Rattle.rules.proofs.Faults.{fault_cong}
use Rattle.std.proofs.Common.{Option, Ok, Err}
use Rattle.std.specs.Bool.{then_some}
use Rattle.checks.proofs.Checked.{passes, refused as refused_by}

pub alone : (n k : ℕ) (b : Bool) → 1 ≤ n → applies n k b ≡ first_of (applies n k b ∷ [])
unfolding first_of is_good applies good
alone n k b h = split b (λ t. rw (t, ne_eqb n 0 (omega arith))) (λ f. rw f)

first-append : (l m : List Refusal) → first_of (l ++ m) ≡ cond (is_good (first_of l)) (first_of m) (first_of l)
unfolding first_of is_good good
first-append [] m = refl
first-append (x ∷ l) m = split (is_good x) (λ t. rw t (first-append l m)) (λ f. rw (f, f))

-- where the first checks refuse, theirs is the first refusal of all; where they pass, the others decide
module _ (l m : List Refusal) where
  pub taken : (x : Refusal) → Err x ≡ checked (first_of l) → Err x ≡ checked (first_of (l ++ m))
  taken x e = rw (first-append l m, (refused_by (first_of l) x e).1) e

  pub passed : Ok (tt {0}) ≡ checked (first_of l) → checked (first_of m) ≡ checked (first_of (l ++ m))
  passed e = rw (first-append l m, passes (first_of l) e) refl

pub count_is : (s : Set) → check_count (view s) ≡ first_of (check_count (view s) ∷ [])
unfolding check_count
count_is s = alone 2 _ _ (omega arith)

pub counts_fit : (s : Set) → Ok (tt {0}) ≡ checked (check_count (view s)) → (s.count ≤ 64) × (s.lo.count ≤ 64) × (s.hi.count ≤ 64)
unfolding view count_of
counts_fit s e =
    let k = counts_right (view s) (passes _ e) in
    omega (arith, k, hi_jobs_most (view s))

-- what a check finds, as its result
refused_number : (n k : ℕ) → 1 ≤ n → refused n (nonzero k) ≡ checked (placed n k)
unfolding refused nonzero checked placed applies good is_good
refused_number n zero h = refl
refused_number n (suc k) h = rw (ne_eqb (suc k) 0 (omega arith), ne_eqb n 0 (omega arith)) refl

refused_placed : (n k : ℕ) → 1 ≤ n → refused n (nonzero k) ≡ checked (first_of (placed n k ∷ []))
unfolding placed
refused_placed n k h = refused_number n k h ∙ ap checked (alone n k _ h)

pub refused_where : (n k : ℕ) (b : Bool) → 1 ≤ n → refused n (then_some b k) ≡ checked (applies n k b)
unfolding refused checked applies good is_good
refused_where n k b h = split b (λ t. rw (t, ne_eqb n 0 (omega arith)) refl) (λ f. rw f refl)

within : (n : ℕ) → n ≤ 64 → min n 64 ≡ n
within n h = omega arith

module _ (s : Set) (k : Option ℕ) where
  pub time_is : k ≡ nonzero (first (λ j. untimely (job_at s j)) (members (view s).policy)) → refused 3 k ≡ checked (first_of (check_time (view s) ∷ []))
  unfolding check_time lowest time_wrong untimely view
  time_is e = ap (refused 3) e ∙ refused_placed 3 _ (omega arith)

  pub budget_is : k ≡ nonzero (first (λ j. unbudgeted (job_at s j)) (members (view s).policy)) → refused 4 k ≡ checked (first_of (check_budget (view s) ∷ []))
  unfolding check_budget lowest budget_wrong unbudgeted view critical
  budget_is e = ap (refused 4) e ∙ refused_placed 4 _ (omega arith)

  module _ (ok : List Bool) where
    pub lo_is : s.lo.count ≤ 64 → ((j : ℕ) → marked ok j ≡ may_stand (view s) Lo j) → k ≡ nonzero (fault (marked ok) (cut 0 (min s.lo.count 64) s.lo.entries))
        → refused 6 k ≡ checked (first_of (check_lo_order (view s) ∷ []))
    unfolding check_lo_order view order_of may_stand is_hi
    lo_is c h e =
        ap (refused 6) (e ∙ ap (λ n. nonzero (fault (marked ok) (cut 0 n s.lo.entries))) (within s.lo.count c) ∙ ap nonzero (fault_cong (marked ok) (view s).policy.part (order_of s Lo) (λ j. h j ∙ and_true ((view s).policy.part j))))
        ∙ refused_placed 6 _ (omega arith)

    pub hi_is : s.hi.count ≤ 64 → ((j : ℕ) → marked ok j ≡ may_stand (view s) Hi j) → k ≡ nonzero (fault (marked ok) (cut 0 (min s.hi.count 64) s.hi.entries))
        → refused 7 k ≡ checked (first_of (check_hi_order (view s) ∷ []))
    unfolding check_hi_order is_hi_job view order_of may_stand is_hi
    hi_is c h e =
        ap (refused 7) (e ∙ ap (λ n. nonzero (fault (marked ok) (cut 0 n s.hi.entries))) (within s.hi.count c) ∙ ap nonzero (fault_cong (marked ok) (is_hi_job (view s)) (order_of s Hi) h))
        ∙ refused_placed 7 _ (omega arith)
