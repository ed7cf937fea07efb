-- The switch of a run and what became of its jobs. A run c of v, each time from 1 to the job's largest budget.
--   switches       == the run never switches, and its mode is LO at every instant; or it switches at τ, before the span
--   never_iff      == it never switches exactly if no HI job's time is above its LO budget
--   not-dropped    == a job whose deadline is required is not dropped;  kept-had: who is not dropped has had its time by the span
--   ends-..        == the finish of a job whose deadline is required;  outcome_cases: a job is dropped or finishes by the span
--   mark_is        == the number that the paper writes for its outcome is its finish where it is done at the span, else 0
--   meets_e, meets_i == the run meets what it requires exactly if each such finish is by the deadline
-- Assumes nothing.
use Rattle.std.specs.Prelude.{None as Never, Some as At, Option}
use Prim.Native.Nat.{ℕ, zero, suc, ◌≤◌, ◌<◌}
use mathlib.Core.Path.{◌≡◌, refl, sym, ◌∙◌, ap, subst}
use mathlib.Core.Bool.{Bool, true, false, cond, not, ◌&&◌, ◌||◌}
use mathlib.Core.List.{List}
use mathlib.Core.Logic.{◌⊎◌, inl, inr, ⊎_elim, ◌↔◌}
use native.Mathlib.Omega.{arith}
use native.Mathlib.Decide.{le_ind}
use lib.Dec.{eqb, leb, ltb}
use borrow.Author.Tests.{eqb-true, eqb-false, eq-eqb, ne_eqb, le-ltb, not-true, not-false}
use Rattle.model.specs.Lists.{any, mem, least}
use Rattle.model.specs.Sets.{View, is_hi, members, critical, span}
use Rattle.model.specs.Runs.{time, mode_at, slot_at, had_at, done_at, finish_of, switch_of, dropped_by, Outcome, finished, dropped, outcome, mark, required_after, outcome_in, switch_in, required, late, missed, meets}
use Rattle.laws.proofs.Bools.{tests, split, clash, not_i, and_l, and_r, and_i, or_cases, and_no_l, and_no_r, or_no_l}
use Rattle.laws.proofs.Lists.{any_none, any_no, least_le, least-before, least_passes}
use Rattle.laws.proofs.Places.{members_i, members_e, is_hi_lem}
use Rattle.laws.proofs.Runs as Run
use Rattle.laws.proofs.Sound.{Ordered}
use Rattle.laws.proofs.Ends.{Within, Times, Bounded, Kept, by_span, lo_always}
use Rattle.laws.proofs.Finishes.{finish-done, finish_pos, finish-none}

-- the run switches at τ: the mode is HI there, and not before
abbrev pub Switches : View → List ℕ → ℕ → Type 0
Switches v c τ =
    (switch_in v c ≡ At τ) × (τ < span v) × (is_hi (mode_at v.policy c τ) ≡ true)
    × ((u : ℕ) → u < τ → is_hi (mode_at v.policy c u) ≡ false)

pub switch_cases : (v : View) (c : List ℕ)
    → ((switch_in v c ≡ Never) × ((t : ℕ) → t < span v → is_hi (mode_at v.policy c t) ≡ false)) ⊎ ((τ : ℕ) × Switches v c τ)
unfolding switch_in switch_of
switch_cases v c =
    let test : ℕ → Bool = λ t. is_hi (mode_at v.policy c t) in
    let n : ℕ = span v in
    let τ : ℕ = least test n in
    split (eqb τ n)
    (λ e.
    inl (
      rw e refl,
      λ t q. least-before test n t (omega (tests, e, q)),
    ))
    (λ e.
    let ne : τ ≡ n → ⊥ = eqb-false τ n e in
    let lt : τ < n = omega (arith, ne, least_le test n) in
    inr (τ, (rw e refl, lt, least_passes test n lt, λ u q. least-before test n u q)))

never_at {ℓ} : {P : Type ℓ} (τ : ℕ) → Never ≡ At τ → P
never_at τ e = absurd (let z : ◌≡◌ {A = ℕ} 0 1 = cc in omega arith)

module _ (v : View) (o : Ordered v.policy) (b : Bounded v) (c : List ℕ) (r : Times v c) where
  in_limit : Within v c
  in_limit j a = (r j a).1

  -- a HI job is never unfinished at or after the span
  no_overrun : (t j : ℕ) → span v ≤ t → Run.Overrun v.policy c o.room t j → ⊥
  no_overrun t j q x = omega (arith, x.3, by_span v o b c in_limit t j x.0 (inr x.1) q)

  -- so the mode switches before the span or never
  pub lo_for_good : ((t : ℕ) → t < span v → is_hi (mode_at v.policy c t) ≡ false) → (t : ℕ) → is_hi (mode_at v.policy c t) ≡ false
  lo_for_good l zero =
      split (is_hi (mode_at v.policy c 0))
      (λ h.
      let (j, x) = Run.hi-from-start v.policy c o.room h in
      split (leb (span v) 0) (λ q. absurd (no_overrun 0 j (omega (tests, q)) x)) (λ q. l 0 (omega (tests, q))))
      (λ h. h)
  lo_for_good l (suc t) =
      split (is_hi (mode_at v.policy c (suc t)))
      (λ h.
      split (leb (span v) (suc t))
      (λ q.
      ⊎_elim (λ m. clash m (lo_for_good l t)) (λ (j, x). absurd (no_overrun (suc t) j (omega (tests, q)) x))
      (Run.hi-from v.policy c o.room t h))
      (λ q. l (suc t) (omega (tests, q))))
      (λ h. h)

  pub switches : ((switch_in v c ≡ Never) × ((t : ℕ) → is_hi (mode_at v.policy c t) ≡ false)) ⊎ ((τ : ℕ) × Switches v c τ)
  switches = ⊎_elim (λ (e, l). inl (e, lo_for_good l)) (λ x. inr x) (switch_cases v c)

  -- a job whose deadline is required is not dropped
  not-dropped : (j : ℕ) → required v c j ≡ true → dropped_by v.policy c j (switch_in v c) ≡ false
  unfolding required required_after dropped_by
  not-dropped j q =
      ⊎_elim {C = dropped_by v.policy c j (switch_in v c) ≡ false}
      (λ (e, l). rw e refl)
      (λ (τ, x).
      let k : critical v.policy j ≡ true = subst (λ (z : Option ℕ). required_after v.policy j z ≡ true) x.0 q in
      rw x.0 (and_no_l (not (done_at v.policy c τ j) || leb τ (v.policy.arrival j)) (ap not k)))
      switches

  -- and who is not dropped has had its time by the span: a LO job, where there is a switch, was done at it
  kept-had : (j : ℕ) → v.policy.part j ≡ true → dropped_by v.policy c j (switch_in v c) ≡ false → had_at v.policy c (span v) j ≡ time c j
  unfolding dropped_by
  kept-had j a d =
      let p = v.policy in
      let by : Kept p o c (span v) j → had_at p c (span v) j ≡ time c j = λ k. by_span v o b c in_limit (span v) j a k (omega arith) in
      ⊎_elim
      (λ (e, lo). by (inl (lo (span v))))
      (λ (τ, x).
      split (critical p j)
      (λ k. by (inr k))
      (λ k.
      let y : (not (done_at p c τ j) || leb τ (p.arrival j)) ≡ false = rw (x.0, k) at d in
      let done : done_at p c τ j ≡ true =
      not-false (done_at p c τ j) (or_no_l (not (done_at p c τ j)) (leb τ (p.arrival j)) y) in
      let had : had_at p c τ j ≡ time c j =
      eqb-true (had_at p c τ j) (time c j) (sym (Run.done_is p c o.room τ j a) ∙ done) in
      omega (
        arith,
        had,
        Run.had_le p c o.room (span v) j a,
        Run.had-later p c o.room τ (span v) j (o.room j a).0 (omega (arith, x.1)),
      )))
      switches

  -- the finish of a job whose deadline is required
  module _ (j : ℕ) (a : v.policy.part j ≡ true) (q : required v c j ≡ true) where
    pub ends_as : outcome_in v c j ≡ finished (finish_of v.policy c (span v) j)
    unfolding outcome_in outcome switch_in
    ends_as = rw (not-dropped j q) refl

    pub ends-had : had_at v.policy c (span v) j ≡ time c j
    ends-had = kept-had j a (not-dropped j q)

    pub ends-span : finish_of v.policy c (span v) j ≤ span v
    ends-span = finish-none v.policy c o.room (span v) j a (span v) (r j a).0 (omega arith) ends-had

    pub ends-done : had_at v.policy c (finish_of v.policy c (span v) j) j ≡ time c j
    ends-done = (finish-done v.policy c o.room (span v) j a ends-span).1

    pub ends_pos : 1 ≤ finish_of v.policy c (span v) j
    ends_pos = finish_pos v.policy c o.room (span v) j a (r j a).0 ends-span

    pub ends_by : (t : ℕ) → time c j ≤ had_at v.policy c t j → finish_of v.policy c (span v) j ≤ t
    ends_by t h =
        split (leb t (span v))
        (λ l.
        finish-none v.policy c o.room (span v) j a t (r j a).0 (omega (tests, l))
        (omega (arith, h, Run.had_le v.policy c o.room t j a)))
        (λ l. omega (tests, l, ends-span))

    pub in_time : (late v c j ≡ false) ↔ (finish_of v.policy c (span v) j ≤ v.deadline j)
    unfolding late mark
    in_time = (
      λ h. omega (tests, subst (λ (x : Outcome). ltb (v.deadline j) (mark x) ≡ false) ends_as h),
      λ h. rw ends_as (le-ltb (v.deadline j) (finish_of v.policy c (span v) j) h),
    )

  pub meets_e : meets v c ≡ true → (j : ℕ) → v.policy.part j ≡ true → required v c j ≡ true
      → finish_of v.policy c (span v) j ≤ v.deadline j
  unfolding meets missed
  meets_e m j a q =
      (in_time j a q).0
      (split (late v c j)
      (λ l.
      clash (and_i q l)
      (any_no (missed v c) (members v.policy) j (not-true (any (missed v c) (members v.policy)) m) (members_i v.policy j o.room a)))
      (λ l. l))

  pub meets_i : ((j : ℕ) → v.policy.part j ≡ true → required v c j ≡ true → finish_of v.policy c (span v) j ≤ v.deadline j)
      → meets v c ≡ true
  unfolding meets missed
  meets_i h =
      not_i
      (any_none (missed v c) (members v.policy)
      (λ j m.
      split (required v c j)
      (λ q. and_no_r (required v c j) ((in_time j (members_e v.policy j m) q).1 (h j (members_e v.policy j m) q)))
      (λ q. and_no_l (late v c j) q)))

  -- the run never switches exactly if no HI job's time is above its LO budget
  pub never_iff : (switch_in v c ≡ Never) ↔ ((j : ℕ) → v.policy.part j ≡ true → critical v.policy j ≡ true → time c j ≤ v.policy.lo j)
  never_iff = (
    λ e j a k.
        ⊎_elim
        (λ (x, lo).
        omega (
          arith,
          Run.lo_most v.policy c o.room (span v) j (lo (span v)) a k,
          by_span v o b c in_limit (span v) j a (inr k) (omega arith),
        ))
        (λ (τ, x). never_at τ (sym e ∙ x.0))
        switches,
    λ h. ⊎_elim (λ (e, lo). e) (λ (τ, x). clash x.2 (lo_always v.policy o c h τ)) switches,
  )

  -- a job is dropped, or finishes by the span
  pub outcome_cases : (j : ℕ) → v.policy.part j ≡ true
      → (outcome_in v c j ≡ dropped)
      ⊎ ((outcome_in v c j ≡ finished (finish_of v.policy c (span v) j)) × (finish_of v.policy c (span v) j ≤ span v))
  unfolding outcome_in outcome switch_in
  outcome_cases j a =
      split (dropped_by v.policy c j (switch_in v c))
      (λ d. inl (rw d refl))
      (λ d.
      inr (
        rw d refl,
        finish-none v.policy c o.room (span v) j a (span v) (r j a).0 (omega arith) (kept-had j a d),
      ))

  -- in HI mode a LO job gets no slot
  no_slot : (t j : ℕ) → 1 ≤ j → is_hi (mode_at v.policy c t) ≡ true → critical v.policy j ≡ false → slot_at v.policy c t ≡ j → ⊥
  no_slot t j one h k e =
      let p = v.policy in
      let m : mem j (p.order (mode_at p c t)) ≡ true = (Run.slot_e p c o.room t j one e).3 in
      clash (o.hi_only j (rw (is_hi_lem (mode_at p c t) h) at m)).1 k

  -- so who is dropped never has its time
  dropped_lacks : (j : ℕ) → v.policy.part j ≡ true → dropped_by v.policy c j (switch_in v c) ≡ true
      → (t : ℕ) → had_at v.policy c t j < time c j
  unfolding dropped_by
  dropped_lacks j a d t =
      let p = v.policy in
      let one : 1 ≤ j = (o.room j a).0 in
      ⊎_elim
      (λ (e, lo). clash d (rw e refl))
      (λ (τ, x).
      let y : (not (critical p j) && (not (done_at p c τ j) || leb τ (p.arrival j))) ≡ true = rw x.0 at d in
      let k : critical p j ≡ false = not-true (critical p j) (and_l (not (critical p j)) (not (done_at p c τ j) || leb τ (p.arrival j)) y) in
      let at-switch : had_at p c τ j < time c j =
      ⊎_elim
      (λ n.
      let ne : had_at p c τ j ≡ time c j → ⊥ =
      eqb-false (had_at p c τ j) (time c j) (sym (Run.done_is p c o.room τ j a) ∙ not-true (done_at p c τ j) n) in
      omega (arith, ne, Run.had_le p c o.room τ j a))
      (λ l. omega (tests, r j a, Run.had_early p c o.room τ j one (omega (tests, l))))
      (or_cases (not (done_at p c τ j)) (leb τ (p.arrival j))
      (and_r (not (critical p j)) (not (done_at p c τ j) || leb τ (p.arrival j)) y)) in
      split (leb t τ)
      (λ q. omega (tests, at-switch, Run.had-later p c o.room t τ j one (omega (tests, q))))
      (λ q.
      le_ind (λ u. had_at p c u j < time c j) at-switch
      (λ u l h.
      omega (
        arith,
        h,
        Run.had_other p c o.room u j one (no_slot u j one (Run.hi-later p c o.room τ u l x.2) k),
      ))
      t
      (omega (tests, q))))
      switches

  -- a job's finish, 0 for a dropped job: its finish where it is done at the span, else 0
  pub mark_is : (j : ℕ) → v.policy.part j ≡ true
      → mark (outcome_in v c j) ≡ cond (done_at v.policy c (span v) j) (finish_of v.policy c (span v) j) 0
  unfolding outcome_in outcome switch_in mark
  mark_is j a =
      let p = v.policy in
      let done : done_at p c (span v) j ≡ eqb (had_at p c (span v) j) (time c j) = Run.done_is p c o.room (span v) j a in
      split (dropped_by p c j (switch_in v c))
      (λ d.
      rw (d, done, ne_eqb (had_at p c (span v) j) (time c j) (omega (arith, dropped_lacks j a d (span v)))) refl)
      (λ d. rw (d, done, eq-eqb (had_at p c (span v) j) (time c j) (kept-had j a d)) refl)
