-- A fit set, and every weaker one, meets in every run what the run requires.
--   scenario-times   == the times of a scenario are those of a run
--   fit_lo, fit_hi   == what fitness says of scenario 0, and of scenario J
--   in_bound         == in a run of a weaker set, a job has had its time by its image's deadline
--   runs_meet        == so each run of it meets what it requires
--   meet_fit         == a set whose every run does is fit
-- Assumes nothing.
use Rattle.std.specs.Prelude.{None as Never, Some as At, Option}
use Prim.Native.Nat.{ℕ, ◌≤◌, ◌<◌}
use mathlib.Core.Path.{◌≡◌, refl, sym, ◌∙◌, ap, subst}
use mathlib.Core.Bool.{true, false}
use mathlib.Core.List.{List}
use mathlib.Core.Logic.{⊎_elim}
use native.Mathlib.Omega.{arith}
use lib.Dec.{leb, ltb}
use Rattle.model.specs.declared.Scenario.{Scenario}
use Rattle.model.specs.declared.Scenario.TheVariants.{Lo, Hi}
use Rattle.model.specs.declared.Verdict.TheVariants.{Fit}
use Rattle.model.specs.Sets.{View, is_hi, critical, span}
use Rattle.model.specs.Runs.{time, mode_at, had_at, finish_of, switch_in, required, required_after, meets, is_run}
use Rattle.model.specs.Scenarios.{lo_times, times_of, verdict}
use Rattle.theory.specs.Weaker.{Weaker}
use Rattle.theory.specs.Misses.{ScenarioOf}
use Rattle.laws.proofs.Bools.{tests, split, clash}
use Rattle.laws.proofs.Runs as Run
use Rattle.laws.proofs.Sound.{Ordered, Sound}
use Rattle.laws.proofs.Ends.{Times, Within, Bounded, limit-hi}
use Rattle.laws.proofs.Checks.{check_run_lem}
use Rattle.laws.proofs.Turns.{lo-time, lo-range, hi-range}
use Rattle.theory.proofs.Scenarios.{lo_stays}
use Rattle.theory.proofs.PhaseTwo.{unfinished_i}
use Rattle.theory.proofs.Dominance.{dominates_lo, dominates_hi}
use Rattle.laws.proofs.Outcomes.{switches, ends-done, ends_by, meets_e, meets_i}
use Rattle.theory.proofs.Verdicts.{fit_meets}

pub scenario-times : (v : View) → Sound v → (x : Scenario) → ScenarioOf v x → Times v (times_of v x)
unfolding times_of
scenario-times v s Lo q = lo-range v s
scenario-times v s (Hi J) q = hi-range v s J q.0 q.1

-- a HI job's deadline is always required
pub required-hi : (v : View) (c : List ℕ) (j : ℕ) → critical v.policy j ≡ true → required v c j ≡ true
unfolding required required_after
required-hi v c j k = by-switch (switch_in v c)
  where
    by-switch : (x : Option ℕ) → required_after v.policy j x ≡ true
    by-switch Never = refl
    by-switch (At t) = k

-- every deadline is, where the mode stays LO
pub required-lo : (v : View) → Sound v → (c : List ℕ) → Times v c → ((t : ℕ) → is_hi (mode_at v.policy c t) ≡ false) → (j : ℕ)
    → required v c j ≡ true
unfolding required required_after
required-lo v s c r l j =
    ⊎_elim (λ (e, m). rw e refl) (λ (τ, x). clash x.2 (l τ)) (switches v s.ordered (limit-hi v s) c r)

module _ (v : View) (s : Sound v) (fit : verdict v ≡ Fit) where
  pub fit_lo : (j : ℕ) → v.policy.part j ≡ true → finish_of v.policy (lo_times v) (span v) j ≤ v.deadline j
  unfolding times_of
  fit_lo j a =
      meets_e v s.ordered (limit-hi v s) (lo_times v) (scenario-times v s Lo tt) ((fit_meets v s.ordered.room).0 fit Lo tt) j a
      (required-lo v s (lo_times v) (scenario-times v s Lo tt) (lo_stays v s) j)

  pub fit_hi : (J j : ℕ) → v.policy.part J ≡ true → critical v.policy J ≡ true → v.policy.part j ≡ true → critical v.policy j ≡ true
      → finish_of v.policy (times_of v (Hi J)) (span v) j ≤ v.deadline j
  fit_hi J j a k b h =
      meets_e v s.ordered (limit-hi v s) (times_of v (Hi J)) (scenario-times v s (Hi J) (a, k))
      ((fit_meets v s.ordered.room).0 fit (Hi J) (a, k)) j b
      (required-hi v (times_of v (Hi J)) j h)

  module _ (w : View) (e : ℕ → ℕ) (k : Weaker e w v) (ow : Ordered w.policy) (c : List ℕ) (wc : Within w c) where
    critical_e : (i : ℕ) → w.policy.part i ≡ true → critical w.policy i ≡ true → critical v.policy (e i) ≡ true
    unfolding critical
    critical_e i a h = ap is_hi (sym (k.level i a)) ∙ h

    had-lo : (i : ℕ) → w.policy.part i ≡ true
        → v.policy.lo (e i) ≤ had_at v.policy (lo_times v) (finish_of v.policy (lo_times v) (span v) (e i)) (e i)
    unfolding times_of
    had-lo i a =
        let b = k.job i a in
        let r = scenario-times v s Lo tt in
        omega (
          arith,
          lo-time v s (e i) b,
          ends-done v s.ordered (limit-hi v s) (lo_times v) r (e i) b (required-lo v s (lo_times v) r (lo_stays v s) (e i)),
        )

    -- a job that is not dropped has had its time by an instant no later than its image's deadline: in LO mode, and past a switch at τ
    pub in_bound_lo : (i : ℕ) → w.policy.part i ≡ true → ((t : ℕ) → is_hi (mode_at w.policy c t) ≡ false)
        → (t : ℕ) × (time c i ≤ had_at w.policy c t i) × (t ≤ v.deadline (e i))
    in_bound_lo i a lo =
        let t : ℕ = finish_of v.policy (lo_times v) (span v) (e i) in
        (t, dominates_lo w v e k ow s c wc t i (lo t) a (had-lo i a), fit_lo (e i) (k.job i a))

    pub in_bound_hi : (i τ : ℕ) → w.policy.part i ≡ true → critical w.policy i ≡ true → is_hi (mode_at w.policy c τ) ≡ true
        → ((u : ℕ) → u < τ → is_hi (mode_at w.policy c u) ≡ false)
        → (t : ℕ) × (time c i ≤ had_at w.policy c t i) × (t ≤ v.deadline (e i))
    in_bound_hi i τ a h hi lo =
        let p = w.policy in
        let b = k.job i a in
        split (ltb (had_at p c τ i) (time c i))
        (λ l.
        let (J, aJ, kJ, whole, by) = dominates_hi w v e k ow s c wc τ i hi lo (unfinished_i p c τ i a h (omega (tests, l))) in
        let d = times_of v (Hi J) in
        let t : ℕ = finish_of v.policy d (span v) (e i) in
        let done =
        ends-done v s.ordered (limit-hi v s) d (scenario-times v s (Hi J) (aJ, kJ)) (e i) b
        (required-hi v d (e i) (critical_e i a h)) in
        (t, by t (omega (arith, done, whole)), fit_hi J (e i) aJ kJ b (critical_e i a h)))
        (λ l.
        let t : ℕ = finish_of v.policy (lo_times v) (span v) (e i) in (
          t,
          split (leb τ t)
              (λ q. omega (tests, l, Run.had-later p c ow.room τ t i (ow.room i a).0 (omega (tests, q))))
              (λ q. dominates_lo w v e k ow s c wc t i (lo t (omega (tests, q))) a (had-lo i a)),
          fit_lo (e i) b,
        ))

    pub in_bound : Bounded w → Times w c → (i : ℕ) → w.policy.part i ≡ true → required w c i ≡ true
        → (t : ℕ) × (time c i ≤ had_at w.policy c t i) × (t ≤ v.deadline (e i))
    unfolding required required_after
    in_bound b r i a q =
        ⊎_elim
        (λ (x, lo). in_bound_lo i a lo)
        (λ (τ, x).
        in_bound_hi i τ a (subst (λ (y : Option ℕ). required_after w.policy i y ≡ true) x.0 q) x.2 x.3)
        (switches w ow b c r)

    pub runs_meet : Bounded w → Times w c → meets w c ≡ true
    runs_meet b r =
        meets_i w ow b c r
        (λ i a q.
        let (t, h, l) = in_bound b r i a q in
        omega (arith, ends_by w ow b c r i a q t h, l, k.deadline i a))

pub meet_fit : (v : View) → Sound v → ((c : List ℕ) → is_run v c ≡ true → meets v c ≡ true) → verdict v ≡ Fit
meet_fit v s h =
    (fit_meets v s.ordered.room).1
    (λ x q. h (times_of v x) ((check_run_lem v (times_of v x) s.ordered.room).1 (scenario-times v s x q)))
