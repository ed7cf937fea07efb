-- The running times of the scenarios, and the turn of a HI job J: the instant at which it has had its LO budget in scenario 0.
--   place-time, lo-time, hi_time_lem   == the time of a job that takes part
--   lo-range, hi-range     == the times of a scenario are those of a run;  lo-within, hi-within: none is above the largest budget
--   turn-..                == until its turn J has had less than its LO budget, and at its turn all of it
--   raised                 == in scenario J a job has its LO budget; or it is a HI job unfinished until J's turn, and has its HI budget
--   done-turn              == at J's turn a HI job is done exactly if its own turn is no later
--   hi-mark                == a HI job is never dropped: what the run marks is its finish
-- Assumes nothing.
use Rattle.std.specs.Prelude.{None as Never, Some as At, Option}
use Prim.Native.Nat.{ℕ, ◌≤◌, ◌<◌}
use mathlib.Core.Path.{◌≡◌, refl, sym, ◌∙◌, subst}
use mathlib.Core.Bool.{true, false, cond, not, ◌&&◌, ◌||◌}
use mathlib.Core.List.{List}
use mathlib.Core.Logic.{◌⊎◌, inl, inr, ⊎_elim}
use native.Mathlib.Omega.{arith}
use lib.Dec.{eqb, leb}
use borrow.Author.Tests.{eqb-true, eqb-false, eq-eqb, ne_eqb, not-true, le-leb, leb-true}
use Rattle.model.specs.declared.Scenario.TheVariants.{Hi as HiOf}
use Rattle.model.specs.Sets.{Policy, View, critical, span}
use Rattle.model.specs.Runs.{time, had_at, done_at, finish_of, switch_of, dropped_by, outcome, outcome_in, mark, limit}
use Rattle.model.specs.Scenarios.{places, lo_times, turn, hi_time, times_of}
use Rattle.laws.proofs.Bools.{split, same, not_i, and_l, and_r, and_i, or_cases, or_l, or_r}
use Rattle.laws.proofs.Sums.{at-numbers}
use Rattle.laws.proofs.Runs as Run
use Rattle.laws.proofs.Sound.{Ordered, Sound}
use Rattle.laws.proofs.Ends.{Within, Times, limit-hi, by_span}
use Rattle.laws.proofs.Finishes.{finish-done, finish-before, finish-none}

pub place-time : (v : View) (f : ℕ → ℕ) (j : ℕ) → Ordered v.policy → v.policy.part j ≡ true → time (places v f) j ≡ f j
unfolding time places
place-time v f j o a =
    at-numbers (λ i. cond (v.policy.part i) (f i) 0) 64 j 0 (o.room j a).0 (o.room j a).1 ∙ rw a refl

module _ (v : View) (s : Sound v) where
  pub lo-time : (j : ℕ) → v.policy.part j ≡ true → time (lo_times v) j ≡ v.policy.lo j
  unfolding lo_times
  lo-time j a = place-time v v.policy.lo j s.ordered a

  pub lo-least : (j : ℕ) → v.policy.part j ≡ true → v.policy.lo j ≤ limit v j
  unfolding limit
  lo-least j a =
      split (critical v.policy j) (λ k. rw k (omega (arith, s.above j a k))) (λ k. rw k (omega arith))

  pub lo-within : Within v (lo_times v)
  lo-within j a = omega (arith, lo-time j a, lo-least j a)

  pub lo-range : Times v (lo_times v)
  lo-range j a = omega (arith, lo-time j a, s.some j a, lo-least j a)

  module _ (J : ℕ) (a : v.policy.part J ≡ true) (k : critical v.policy J ≡ true) where
    one_lo : 1 ≤ time (lo_times v) J
    one_lo = omega (arith, lo-time J a, s.some J a)

    pub turn-span : turn v J ≤ span v
    unfolding turn
    turn-span =
        finish-none v.policy (lo_times v) s.ordered.room (span v) J a (span v) one_lo (omega arith)
        (by_span v s.ordered (limit-hi v s) (lo_times v) lo-within (span v) J a (inr k) (omega arith))

    pub turn-had : had_at v.policy (lo_times v) (turn v J) J ≡ v.policy.lo J
    unfolding turn
    turn-had = (finish-done v.policy (lo_times v) s.ordered.room (span v) J a turn-span).1 ∙ lo-time J a

    pub turn-before : (t : ℕ) → t < turn v J → had_at v.policy (lo_times v) t J < v.policy.lo J
    unfolding turn
    turn-before t h =
        omega (arith, finish-before v.policy (lo_times v) s.ordered.room (span v) J a t h one_lo, lo-time J a)

    pub hi_time_lem : (j : ℕ) → v.policy.part j ≡ true
        → time (times_of v (HiOf J)) j ≡ hi_time v J (done_at v.policy (lo_times v) (turn v J)) j
    unfolding times_of
    hi_time_lem j b = place-time v (hi_time v J (done_at v.policy (lo_times v) (turn v J))) j s.ordered b

    -- a HI job that is J, or unfinished at J's turn, has its HI budget
    pub hi-raised : (j : ℕ) → v.policy.part j ≡ true → critical v.policy j ≡ true
        → (j ≡ J) ⊎ (had_at v.policy (lo_times v) (turn v J) j < v.policy.lo j) → time (times_of v (HiOf J)) j ≡ v.hi j
    unfolding hi_time
    hi-raised j b c u =
        hi_time_lem j b
        ∙ rw (and_i c
        (⊎_elim (λ e. or_l (not (done_at v.policy (lo_times v) (turn v J) j)) (eq-eqb j J e))
        (λ h.
        or_r (eqb j J)
        (not_i
        (Run.done_is v.policy (lo_times v) s.ordered.room (turn v J) j b
        ∙ ne_eqb (had_at v.policy (lo_times v) (turn v J) j) (time (lo_times v) j) (omega (arith, h, lo-time j b)))))
        u))
        refl

    pub raised : (j : ℕ) → v.policy.part j ≡ true
        → (time (times_of v (HiOf J)) j ≡ v.policy.lo j)
        ⊎ ((critical v.policy j ≡ true) × (time (times_of v (HiOf J)) j ≡ v.hi j)
        × ((t : ℕ) → t < turn v J → had_at v.policy (lo_times v) t j < v.policy.lo j))
    unfolding hi_time
    raised j b =
        let p = v.policy in
        let σ : ℕ = turn v J in
        let done = done_at p (lo_times v) σ in
        split (critical p j && (eqb j J || not (done j)))
        (λ h.
        inr (
          and_l (critical p j) (eqb j J || not (done j)) h,
          hi_time_lem j b ∙ rw h refl,
          λ t q.
              ⊎_elim
              (λ e. subst (λ i. had_at p (lo_times v) t i < p.lo i) (sym (eqb-true j J e)) (turn-before t q))
              (λ n.
              let ne : had_at p (lo_times v) σ j ≡ time (lo_times v) j → ⊥ =
              eqb-false (had_at p (lo_times v) σ j) (time (lo_times v) j)
              (sym (Run.done_is p (lo_times v) s.ordered.room σ j b) ∙ not-true (done j) n) in
              omega (
                arith,
                ne,
                lo-time j b,
                Run.had_le p (lo_times v) s.ordered.room σ j b,
                Run.had-later p (lo_times v) s.ordered.room t σ j (s.ordered.room j b).0 (omega arith),
              ))
              (or_cases (eqb j J) (not (done j)) (and_r (critical p j) (eqb j J || not (done j)) h)),
        ))
        (λ h. inl (hi_time_lem j b ∙ rw h refl))

    pub hi-least : (j : ℕ) → v.policy.part j ≡ true → v.policy.lo j ≤ time (times_of v (HiOf J)) j
    hi-least j b = ⊎_elim (λ e. omega (arith, e)) (λ r. omega (arith, r.1, s.above j b r.0)) (raised j b)

    pub hi-within : Within v (times_of v (HiOf J))
    unfolding limit
    hi-within j b =
        ⊎_elim (λ e. omega (arith, e, lo-least j b)) (λ r. rw r.0 (omega (arith, r.1))) (raised j b)

    pub hi-range : Times v (times_of v (HiOf J))
    hi-range j b = omega (arith, hi-least j b, s.some j b, hi-within j b)

-- another HI job is done at J's turn if its own is no later
pub done-turn : (v : View) → Sound v → (J j : ℕ) → v.policy.part J ≡ true → critical v.policy J ≡ true
    → v.policy.part j ≡ true → critical v.policy j ≡ true
    → done_at v.policy (lo_times v) (turn v J) j ≡ leb (turn v j) (turn v J)
unfolding turn
done-turn v s J j a k b c =
    let p = v.policy in
    let r = s.ordered.room in
    let σ : ℕ = turn v J in
    Run.done_is p (lo_times v) r σ j b
    ∙ same
    (λ e.
    le-leb (turn v j) σ
    (finish-none p (lo_times v) r (span v) j b σ (one_lo v s j b c) (turn-span v s J a k) (eqb-true (had_at p (lo_times v) σ j) (time (lo_times v) j) e)))
    (λ l.
    eq-eqb (had_at p (lo_times v) σ j) (time (lo_times v) j)
    (omega (
      arith,
      turn-had v s j b c,
      lo-time v s j b,
      Run.had_le p (lo_times v) r σ j b,
      Run.had-later p (lo_times v) r (turn v j) σ j (r j b).0 (leb-true (turn v j) σ l),
    )))

not-dropped : (p : Policy) (c : List ℕ) (j : ℕ) (x : Option ℕ) → critical p j ≡ true → dropped_by p c j x ≡ false
unfolding dropped_by
not-dropped p c j Never k = refl
not-dropped p c j (At t) k = rw k refl

pub hi-mark : (v : View) (c : List ℕ) (j : ℕ) → critical v.policy j ≡ true → mark (outcome_in v c j) ≡ finish_of v.policy c (span v) j
unfolding outcome_in outcome mark
hi-mark v c j k = rw (not-dropped v.policy c j (switch_of v.policy c (span v)) k) refl
