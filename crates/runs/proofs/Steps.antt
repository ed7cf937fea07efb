-- One slot of a run, over the columns.
--   overrun_is       == rule 1 over the columns is rule 1 of the policy that they spell out
--   lent_slot        == over columns of 64 places, the pick of the lent lists is the policy's
--   can_account      == whoever is picked can be accounted
--   rule_1           == so it is over the view of columns
--   stepped          == the pick of that mode's order, accounted, is the step
-- Assumes nothing.
use Rattle.std.specs.Prelude.{Some as Job, None as Idle, Option}
use Prim.Native.Nat.{ℕ, suc, ◌≤◌}
use mathlib.Core.Path.{◌≡◌, refl, sym, ◌∙◌, ap}
use mathlib.Core.Bool.{Bool, true, false, not, ◌&&◌}
use mathlib.Core.List.{List}
use native.Mathlib.Omega.{arith}
use lib.Dec.{eqb, leb}
use lib.ListN.{length, take}
use borrow.Author.Tests.{eqb-true, eqb-false, not-true, le-leb}
use Rattle.model.specs.declared.Level.{Level}
use Rattle.model.specs.declared.State.{State}
use Rattle.model.specs.Lists.{at, numbers, any, first}
use Rattle.model.specs.Sets.{members, critical}
use Rattle.model.specs.Runs.{overruns, mode_now, ready, pick, slot_now}
use Rattle.model.specs.Answers.{picked, lent_pick}
use Rattle.laws.proofs.Bools.{tests, split, and_l, and_r, and_i, and_no_r, not_i_false, same}
use Rattle.laws.proofs.Lists.{any_e, any_i, first_some, first_cong}
use Rattle.laws.proofs.Sums.{from-mem, mem-from}
use Rattle.laws.proofs.Places.{at_place, place, members_i, members_e, cond-hi}
use Rattle.runs.specs.declared.engine.Progress.{Progress}
use Rattle.columns.specs.declared.Columns.{Columns}
use Rattle.columns.specs.Columns.{listed, view_of}
use Rattle.runs.specs.Engine.{any_overrun, slot_of, Accountable, Steppable, accounted, next}
use Rattle.runs.proofs.Overruns.{over}

-- picks -------------------------------------------------------------------------------------------------------------------------------

slot_picked : (x : ℕ) → slot_of (picked x) ≡ x
unfolding slot_of picked
slot_picked x = split (eqb x 0) (λ e. rw e (sym (eqb-true x 0 e))) (λ e. rw e refl)

picked-job : (x j : ℕ) → picked x ≡ Job j → (x ≡ j) × (x ≡ 0 → ⊥)
unfolding picked
picked-job x j h =
    split (eqb x 0)
    (λ e. let i : Idle ≡ Job j = rw e at h in let z : ◌≡◌ {A = ℕ} 0 1 = cc in absurd (omega arith))
    (λ e. let i : Job x ≡ Job j = rw e at h in (cc, eqb-false x 0 e))

module _ (o a : List ℕ) (d : List Bool) (t : ℕ) where
  pub lent_slot : length a ≡ 64 → length d ≡ 64 → slot_of (lent_pick o a d t) ≡ pick o (λ j. at a j 0) d t
  unfolding lent_pick pick ready
  lent_slot p q =
      slot_picked (first (ready (λ j. at a j (suc t)) d t) o)
      ∙ first_cong (ready (λ j. at a j (suc t)) d t) (ready (λ j. at a j 0) d t) o
      (λ j m.
      split (at d j true)
      (λ e. and_no_r (leb (at a j (suc t)) t) (not_i_false e) ∙ sym (and_no_r (leb (at a j 0) t) (not_i_false e)))
      (λ e.
      let r = place d j e in
      ap (λ n. leb n t && not (at d j true))
      (at_place a j (suc t) 0 r.0 (omega arith) ∙ sym (at_place a j 0 0 r.0 (omega arith)))))

  picked-place : (j : ℕ) → lent_pick o a d t ≡ Job j → (1 ≤ j) × (j ≤ length d)
  unfolding lent_pick pick ready
  picked-place j h =
      let f = ready (λ i. at a i (suc t)) d t in
      let p = picked-job (first f o) j h in
      let r : f (first f o) ≡ true = (first_some f o p.1).1 in
      rw p.0 at (place d (first f o) (not-true (at d (first f o) true) (and_r (leb (at a (first f o) (suc t)) t) (not (at d (first f o) true)) r)))

pub can_account : (a : List ℕ) (t : ℕ) (g : Progress) (o : List ℕ) (r : Option ℕ)
    → length g.state.done ≡ 64 → Steppable g t → r ≡ lent_pick o a g.state.done t → Accountable g r t
can_account a t g o r n s e =
    record {
      instant = s.instant;
      place = λ j h.
          let p = picked-place o a g.state.done t j (sym e ∙ h) in
          (p.0, omega (arith, p.1, n), omega (arith, s.slots j, s.instant));
    }

-- the step ----------------------------------------------------------------------------------------------------------------------------

module _ (n : ℕ) (a : List ℕ) (k : List Bool) (l lo hi : List ℕ) where
  overruns-over : (s : State) (j : ℕ) → overruns (listed n a k l lo hi) s j ≡ over k l s.had s.done j
  unfolding overruns critical listed
  overruns-over s j = ap (λ b. b && (eqb (at s.had j 0) (at l j 0) && not (at s.done j true))) (cond-hi (at k j false))

  pub overrun_is : (s : State) → n ≤ 64
      → any (overruns (listed n a k l lo hi) s) (members (listed n a k l lo hi)) ≡ any_overrun n k l s.had s.done
  unfolding any_overrun numbers listed
  overrun_is s m =
      let p = listed n a k l lo hi in
      let f = over k l s.had s.done in
      same
      (λ h.
      let r = any_e (overruns p s) (members p) h in
      let q = members_e p r.0 r.1 in
      any_i f (numbers n) r.0
      (from-mem 1 n r.0 (omega (tests, and_l (leb 1 r.0) (leb r.0 n) q)) (omega (tests, and_r (leb 1 r.0) (leb r.0 n) q)))
      (sym (overruns-over s r.0) ∙ r.2))
      (λ h.
      let r = any_e f (numbers n) h in
      let q = mem-from 1 n r.0 r.1 in
      any_i (overruns p s) (members p) r.0
      (members_i p r.0 (λ j e. (omega (tests, and_l (leb 1 j) (leb j n) e), omega (tests, and_r (leb 1 j) (leb j n) e)))
      (and_i (le-leb 1 r.0 (omega arith)) (le-leb r.0 n (omega arith))))
      (overruns-over s r.0 ∙ r.2))

pub rule_1 : (k : Columns) (n : k.n ≤ 64) (s : State)
    → any (overruns (view_of k).policy s) (members (view_of k).policy) ≡ any_overrun k.n k.critical k.lo s.had s.done
unfolding view_of
rule_1 k n s = overrun_is k.n k.arrivals k.critical k.lo (take k.n k.lo_order) (take k.m k.hi_order) s n

pub stepped : (k : Columns) (c : List ℕ) (t : ℕ) (g : Progress) (m : Level) (o : List ℕ) (r : Option ℕ) (x : Progress)
    → length k.arrivals ≡ 64 → length g.state.done ≡ 64 → m ≡ mode_now (view_of k).policy g.state → o ≡ (view_of k).policy.order m
    → r ≡ lent_pick o k.arrivals g.state.done t → x ≡ accounted c t (slot_of r) m g → x ≡ next (view_of k).policy c t g
unfolding next slot_now view_of listed
stepped k c t g m o r x a d e f p q =
    q ∙ ap (λ j. accounted c t j m g) (ap slot_of p ∙ lent_slot o k.arrivals g.state.done t a d) ∙ rw (f, e) refl
