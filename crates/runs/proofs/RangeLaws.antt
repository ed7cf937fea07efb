-- The range of running times, a job at a time, and the answer of a given run.
--   Inside k c i       == the times of the jobs passed lie in their range
--   inside_more, outside-here, outside-none   == a turn of the loop over the jobs
--   refused_9, passed_9                       == check 9, where a time lies outside and where none does
--   ready                                     == a set that passes the checks is one that a run can be made of
--   ran-refused, ran-outside, ran-found       == the three answers
-- Assumes nothing.
use Rattle.std.specs.Prelude.{Ok, Err}
use Prim.Native.Nat.{ℕ, suc, ◌+◌, ◌-◌, ◌≤◌, ◌<◌}
use mathlib.Core.Path.{◌≡◌, refl, sym, ◌∙◌, ap, subst}
use mathlib.Core.Bool.{Bool, true, false, cond, not, ◌&&◌}
use mathlib.Core.List.{List}
use native.Mathlib.Omega.{arith}
use native.Mathlib.Numerals.{add-one}
use lib.Dec.{eqb, leb}
use lib.ListN.{length, get_or}
use borrow.Author.Tests.{eqb-true, eqb-false, not-false, ne_eqb}
use Rattle.model.specs.declared.Refusal.{Refusal}
use Rattle.model.specs.declared.Ran.{Ran}
use Rattle.model.specs.declared.Set.{Set}
use Rattle.model.specs.Lists.{first}
use Rattle.model.specs.Sets.{View, view, members, critical, span}
use Rattle.model.specs.Runs.{time, limit, in_range, is_run}
use Rattle.model.specs.Refusals.{good, is_good, checked, applies, placed, first_of, lowest, refusal, check_run}
use Rattle.model.specs.Answers.{unless, ran}
use Rattle.laws.proofs.Bools.{split, not_i, not_i_false}
use Rattle.laws.proofs.Lists.{first-none, first_zero, any_none}
use Rattle.laws.proofs.Ascending.{members_ascending, first_is}
use Rattle.laws.proofs.Places.{Placed, at_suc, members_i, members_e, members_nonzero}
use Rattle.laws.proofs.Checks.{check_run_lem, applies-not}
use Rattle.laws.proofs.Answers.{ran-good}
use Rattle.laws.proofs.Ends.{Times}
use Rattle.checks.proofs.Checked.{passes, refused}
use Rattle.columns.specs.declared.Columns.{Columns}
use Rattle.columns.specs.Columns.{view_of, columns_of, Testable, Prepared}
use Rattle.columns.proofs.Views.{prepared}
use Rattle.columns.proofs.Entries.{part_is, part_e, critical_is, lo_is, hi_is}
use Rattle.runs.specs.declared.engine.Progress.{Progress}
use Rattle.runs.specs.Engine.{progress_at, run_of, Runnable}
use Rattle.runs.specs.Ranges.{outside, not_run}
use Rattle.runs.proofs.Progress.{progress_run}

abbrev pub Inside : Columns → List ℕ → ℕ → Type 0
Inside k c i = (m : ℕ) → m < i → in_range (view_of k) c (suc m) ≡ true

module _ (k : Columns) (h : Testable k) (c : List ℕ) where
  -- the code's test of a job is the model's
  range_is : (i : ℕ) → (leb 1 (get_or c i 0) && leb (get_or c i 0) (cond (get_or k.critical i false) (get_or k.hi i 0) (get_or k.lo i 0))) ≡ in_range (view_of k) c (suc i)
  unfolding in_range limit time
  range_is i =
      let v = view_of k in
      ap (λ n. leb 1 n && leb n (cond (get_or k.critical i false) (get_or k.hi i 0) (get_or k.lo i 0))) (sym (at_suc c i 0))
      ∙ ap (λ b. leb 1 (time c (suc i)) && leb (time c (suc i)) (cond b (get_or k.hi i 0) (get_or k.lo i 0))) (sym (critical_is k i))
      ∙ ap (λ n. leb 1 (time c (suc i)) && leb (time c (suc i)) (cond (critical v.policy (suc i)) n (get_or k.lo i 0))) (sym (hi_is k i))
      ∙ ap (λ n. leb 1 (time c (suc i)) && leb (time c (suc i)) (cond (critical v.policy (suc i)) (v.hi (suc i)) n)) (sym (lo_is k i))

  pub inside_more : (i : ℕ) (b : Bool) → Inside k c i
      → b ≡ (leb 1 (get_or c i 0) && leb (get_or c i 0) (cond (get_or k.critical i false) (get_or k.hi i 0) (get_or k.lo i 0))) → b ≡ true
      → Inside k c (i + 1)
  inside_more i b p e t m q =
      split (eqb m i)
      (λ z. subst (λ n. in_range (view_of k) c (suc n) ≡ true) (sym (eqb-true m i z)) (sym (range_is i) ∙ sym e ∙ t))
      (λ z. let ne : m ≡ i → ⊥ = eqb-false m i z in p m (omega (arith, ne)))

  inside_is : (i j : ℕ) → Inside k c i → 1 ≤ j → j ≤ i → not (in_range (view_of k) c j) ≡ false
  inside_is i j p a b = not_i_false (subst (λ n. in_range (view_of k) c n ≡ true) (omega arith) (p (j - 1) (omega arith)))

  pub outside-here : (i : ℕ) (b : Bool) → Inside k c i → i < k.n
      → b ≡ (leb 1 (get_or c i 0) && leb (get_or c i 0) (cond (get_or k.critical i false) (get_or k.hi i 0) (get_or k.lo i 0))) → b ≡ false
      → i + 1 ≡ outside (view_of k) c
  unfolding outside
  outside-here i b p q e f =
      let v = view_of k in
      add-one i
      ∙ sym
      (first_is (λ j. not (in_range v c j)) (members v.policy) (members_ascending v.policy) (members_nonzero v.policy) (suc i)
      (members_i v.policy (suc i) h.sound.ordered.room (part_is k i q)) (not_i (sym (range_is i) ∙ sym e ∙ f))
      (λ j m l. let r = part_e k j (members_e v.policy j m) in inside_is i j p r.0 (omega arith)))

  pub outside-none : (i : ℕ) → Inside k c i → k.n ≤ i → 0 ≡ outside (view_of k) c
  unfolding outside
  outside-none i p q =
      sym
      (first_zero (λ j. not (in_range (view_of k) c j)) (members (view_of k).policy)
      (λ j m. let r = part_e k j (members_e (view_of k).policy j m) in inside_is i j p r.0 (omega (arith, r))))

-- check 9 --------------------------------------------------------------------------------------------------------------------------------

module _ (v : View) (c : List ℕ) where
  pub refused_9 : (j : ℕ) → j ≡ outside v c → (j ≡ 0 → ⊥) → Err (record { number = 9; place = j }) ≡ checked (check_run v c)
  unfolding check_run lowest placed applies outside checked is_good
  refused_9 j e z = rw (← e, ne_eqb j 0 z) refl

  pub passed_9 : 0 ≡ outside v c → Ok tt ≡ checked (check_run v c)
  unfolding check_run lowest placed applies outside checked is_good good
  passed_9 e = rw (← e) refl

  none_outside : is_good (check_run v c) ≡ true → outside v c ≡ 0
  unfolding check_run lowest placed outside
  none_outside h =
      let k = first (λ j. not (in_range v c j)) (members v.policy) in
      eqb-true k 0 (not-false (eqb k 0) (applies-not 9 k (not (eqb k 0)) h (omega arith)))

  checked_in : is_good (check_run v c) ≡ true → check_run v c ≡ good
  unfolding check_run lowest placed applies outside
  checked_in h = rw (none_outside h) refl

  -- where no time lies outside its range the run can be executed
  times_in_range : Placed v.policy → is_good (check_run v c) ≡ true → Times v c
  unfolding outside is_run
  times_in_range room h =
      (check_run_lem v c room).0
      (not_i
      (any_none (λ j. not (in_range v c j)) (members v.policy)
      (λ j m. first-none (λ i. not (in_range v c i)) (members v.policy) j (members_nonzero v.policy) (none_outside h) m)))

-- what the checks leave -----------------------------------------------------------------------------------------------------------------

pub ready : (s : Set) (k : Columns) → Ok tt ≡ checked (refusal (view s)) → k ≡ columns_of s → length k.lo_order ≡ 64
    → length k.hi_order ≡ 64 → Prepared s k
unfolding columns_of
ready s k g e lo hi =
    prepared s k (passes (refusal (view s)) g) (ap (λ (x : Columns). length x.lo_order) (sym e) ∙ lo)
    (ap (λ (x : Columns). length x.hi_order) (sym e) ∙ hi) e

-- the three answers ---------------------------------------------------------------------------------------------------------------------

module _ (v : View) (c : List ℕ) where
  pub ran-refused : (x : Refusal) → Err x ≡ checked (refusal v) → not_run x ≡ ran v c
  unfolding ran unless first_of not_run
  ran-refused x e = let r = refused (refusal v) x e in ap not_run r.0 ∙ sym (rw r.1 (rw r.1 refl))

module _ (s : Set) (k : Columns) (p : Prepared s k) (c : List ℕ) where
  pub ran-outside : (x : Refusal) → Err x ≡ checked (check_run (view_of k) c) → not_run x ≡ ran (view s) c
  unfolding ran unless first_of not_run
  ran-outside x e =
      let r = refused (check_run (view s) c) x (rw p.same at e) in
      ap not_run r.0 ∙ sym (rw p.good (rw r.1 (rw r.1 refl)))

  pub ran-found : Ok tt ≡ checked (check_run (view_of k) c) → (g : Progress) (r : Refusal) → r ≡ good → g ≡ progress_at (view_of k).policy k.n c (span (view s))
      → ◌≡◌ {A = Ran} (record { refusal = r; finishes = g.finishes; switch = g.switch }) (ran (view s) c)
  unfolding run_of good
  ran-found e g y i f =
      let q : is_good (check_run (view_of k) c) ≡ true = passes (check_run (view_of k) c) e in
      let r : Runnable k c =
      record { sound = p.testable.sound; range = times_in_range (view_of k) c p.testable.sound.ordered.room q } in
      rw (i, f ∙ ap (λ v. progress_at (view_of k).policy k.n c (span v)) (sym p.same)) (progress_run k c r)
      ∙ ap (λ v. run_of v c) p.same
      ∙ sym (ran-good (view s) c p.good (rw p.same at (checked_in (view_of k) c q)))
