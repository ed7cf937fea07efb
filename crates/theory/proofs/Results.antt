-- What the auditor asked for. Every statement is about sets that pass checks 2 to 7 (`Passes s`), in the words of `specs/Words`, and about the runs
-- of document 01, not about any program. A run c of s (`RunOf s c`) gives each job any whole time from 1 to its largest budget.
-- Assumes nothing.
use Rattle.std.specs.Prelude.{None as Never, Some as At}
use Prim.Native.Nat.{ℕ, ◌≤◌, ◌<◌}
use mathlib.Core.Path.{◌≡◌, refl, sym, ◌∙◌, ap, subst}
use mathlib.Core.Bool.{Bool, true, false, not}
use mathlib.Core.List.{List, [], ◌∷◌}
use native.Mathlib.Omega.{arith}
use mathlib.Core.Logic.{◌⊎◌, inl, inr, ⊎_elim, ◌↔◌}
use lib.Dec.{eqb, ltb}
use borrow.Author.Tests.{ltb-true}
use Rattle.model.specs.declared.Set.{Set}
use Rattle.model.specs.declared.Scenario.{Scenario}
use Rattle.model.specs.declared.Scenario.TheVariants.{Hi}
use Rattle.model.specs.declared.Miss.{Miss}
use Rattle.model.specs.declared.Verdict.TheVariants.{Unfit}
use Rattle.model.specs.Lists.{at, cut}
use Rattle.model.specs.Sets.{View, is_hi, job, blank, set, job_at, view, span}
use Rattle.model.proofs.Table.{P, jobs_of_P}
use Rattle.model.specs.Runs.{time, mode_at, slot_at, had_at, finished, dropped, mark, outcome_in, switch_in, required, required_after, late, missed, meets, limit}
use Rattle.model.specs.Scenarios.{lo_times, turn, times_of, finish_in, verdict, margin}
use Rattle.theory.specs.Weaker.{Weaker}
use Rattle.theory.specs.Eased.{Eased}
use Rattle.theory.specs.Without.{old_number, without}
use Rattle.theory.specs.Misses.{ScenarioOf, Missed}
use Rattle.theory.specs.Signs.{negative, IsSigned}
use Rattle.theory.specs.Words.{Passes, JobOf, HiJobOf, RunOf, NoOverrun, JudgedFit, InTime, Alike}
use Rattle.laws.proofs.Bools.{and_l, and_r}
use Rattle.laws.proofs.Runs as Run
use Rattle.laws.proofs.Sound.{Ordered}
use Rattle.laws.proofs.Ends.{Within, limit-hi}
use Rattle.laws.proofs.Turns.{turn-had, turn-before}
use Rattle.theory.proofs.Scenarios.{lo_until, same_slot}
use Rattle.theory.proofs.PhaseTwo.{unfinished_i}
use Rattle.theory.proofs.Dominance.{dominates_lo, dominates_hi}
use Rattle.laws.proofs.Outcomes.{switches, never_iff, outcome_cases, meets_e, ends_as}
use Rattle.laws.proofs.Finishes.{finish-done, finish-before, finish_pos}
use Rattle.theory.proofs.Verdicts.{unfit_is}
use Rattle.theory.proofs.Fitness.{scenario-times, required-hi, runs_meet, meet_fit}
use Rattle.theory.proofs.Margins.{hi-switch, margin-late, margin-range, fit_margins}
use Rattle.theory.proofs.Embeddings.{weaker_refl, eased_weaker, part_e}
use Rattle.theory.proofs.Without.{without_weaker, both_weaker}
use Rattle.theory.proofs.Passes.{without_passes}
use Rattle.theory.proofs.AtP.{P_passes, P_fit, P-run, P_no_overrun, P_eased, P-later}
use Rattle.theory.proofs.Views.{sound_of, part_of, critical_of, job_of, run_of, run_is, in_time, alike_view}

-- 1. A run ends -----------------------------------------------------------------------------------------------------------------------

-- Of every job it is said what became of it: it is dropped, or it finishes, at an instant from 1 up to the span. At its finish, and not before, it
-- has had its whole running time.
pub every_job_ends : (s : Set) → Passes s → (c : List ℕ) → RunOf s c → (j : ℕ) → JobOf s j
    → (outcome_in (view s) c j ≡ dropped)
    ⊎ ((f : ℕ) × (outcome_in (view s) c j ≡ finished f) × (1 ≤ f) × (f ≤ span (view s))
    × (had_at (view s).policy c f j ≡ time c j) × ((t : ℕ) → t < f → had_at (view s).policy c t j < time c j))
every_job_ends s h c r j a =
    let v = view s in
    let o = (sound_of s h).ordered in
    let p = part_of s j a in
    let t = run_of s h c r in
    ⊎_elim
    (λ d. inl d)
    (λ (e, l).
    inr (
      _,
      e,
      finish_pos v.policy c o.room (span v) j p (t j p).0 l,
      l,
      (finish-done v.policy c o.room (span v) j p l).1,
      λ u q. finish-before v.policy c o.room (span v) j p u q (t j p).0,
    ))
    (outcome_cases v o (limit-hi v (sound_of s h)) c t j p)

-- There is a switch or there is none. If there is none, the mode is LO at every instant. If it is at τ, then τ lies before the span, the mode is LO
-- before τ, and HI from τ on.
pub switch_in-time : (s : Set) → Passes s → (c : List ℕ) → RunOf s c
    → ((switch_in (view s) c ≡ Never) × ((t : ℕ) → is_hi (mode_at (view s).policy c t) ≡ false))
    ⊎ ((τ : ℕ) × (switch_in (view s) c ≡ At τ) × (τ < span (view s)) × ((t : ℕ) → t < τ → is_hi (mode_at (view s).policy c t) ≡ false)
    × ((t : ℕ) → τ ≤ t → is_hi (mode_at (view s).policy c t) ≡ true))
switch_in-time s h c r =
    let v = view s in
    let o = (sound_of s h).ordered in
    ⊎_elim
    (λ n. inl n)
    (λ (τ, (e, l, m, lo)). inr (τ, e, l, lo, λ t q. Run.hi-later v.policy c o.room τ t q m))
    (switches v o (limit-hi v (sound_of s h)) c (run_of s h c r))

-- A run switches if and only if some HI job runs for longer than its LO budget.
pub switches_iff : (s : Set) → Passes s → (c : List ℕ) → RunOf s c → (switch_in (view s) c ≡ Never) ↔ NoOverrun s c
unfolding view
switches_iff s h c r =
    let v = view s in
    let sv = sound_of s h in
    let iff = never_iff v sv.ordered (limit-hi v sv) c (run_of s h c r) in
    (λ e j a. iff.0 e j (part_of s j a.0) (critical_of s j a), λ n. iff.1 (λ j a k. n j (job_of s j a k)))

-- 2. The scenarios --------------------------------------------------------------------------------------------------------------------

-- Every scenario is a run of the set.
pub scenario-is_run : (s : Set) → Passes s → (x : Scenario) → ScenarioOf (view s) x → RunOf s (times_of (view s) x)
scenario-is_run s h x q = run_is s h (times_of (view s) x) (scenario-times (view s) (sound_of s h) x q)

-- Scenario J runs as scenario 0, slot for slot and in LO mode, until J has had its LO budget, and switches exactly there.
pub scenario_as_lo : (s : Set) → Passes s → (j : ℕ) → HiJobOf s j
    → ((t : ℕ) → t < turn (view s) j
    → (slot_at (view s).policy (times_of (view s) (Hi j)) t ≡ slot_at (view s).policy (lo_times (view s)) t)
    × (is_hi (mode_at (view s).policy (times_of (view s) (Hi j)) t) ≡ false)
    × (had_at (view s).policy (lo_times (view s)) t j < (job_at s j).lo))
    × (had_at (view s).policy (lo_times (view s)) (turn (view s) j) j ≡ (job_at s j).lo)
    × (switch_in (view s) (times_of (view s) (Hi j)) ≡ At (turn (view s) j))
unfolding view
scenario_as_lo s h j q =
    let v = view s in
    let sv = sound_of s h in
    let a = part_of s j q.0 in
    let k = critical_of s j q in
    (λ t l. (same_slot v sv j a k t l, lo_until v sv j a k t l, turn-before v sv j a k t l), turn-had v sv j a k, hi-switch v sv j a k)

-- An unfit answer is true of its scenario. Executed, the run that it shows ends that job at that finish, past a deadline that the run requires; no
-- lower job has such a miss in it, and no earlier scenario has one (`Missed`).
pub unfit_is_true : (s : Set) → Passes s → (m : Miss) → verdict (view s) ≡ Unfit m
    → RunOf s (times_of (view s) m.scenario)
    × (required (view s) (times_of (view s) m.scenario) m.job ≡ true)
    × (outcome_in (view s) (times_of (view s) m.scenario) m.job ≡ finished m.finish)
    × ((job_at s m.job).deadline < m.finish)
    × Missed (view s) m
unfolding view missed late finish_in mark
unfit_is_true s h m u =
    let v = view s in
    let sv = sound_of s h in
    let c = times_of v m.scenario in
    let j = m.job in
    let x = unfit_is v sv.ordered.room m u in
    let q = and_l (required v c j) (late v c j) x.misses in
    let e = ends_as v sv.ordered (limit-hi v sv) c (scenario-times v sv m.scenario x.scenario) j x.job q in
    let f = ap mark (sym e) ∙ x.finish in (
      scenario-is_run s h m.scenario x.scenario,
      q,
      e ∙ ap finished f,
      ltb-true (v.deadline j) m.finish
          (subst (λ n. ltb (v.deadline j) n ≡ true) x.finish (and_r (required v c j) (late v c j) x.misses)),
      x,
    )

-- 3. Fit is exact ---------------------------------------------------------------------------------------------------------------------

-- A set is judged fit if and only if every run of it meets what it requires.
pub fit_is_exact : (s : Set) → Passes s → JudgedFit s ↔ ((c : List ℕ) → RunOf s c → meets (view s) c ≡ true)
fit_is_exact s h =
    let v = view s in
    let sv = sound_of s h in (
      λ fit c r.
          let t = run_of s h c r in
          runs_meet v sv fit v (λ i. i) (weaker_refl v) sv.ordered c (λ j a. (t j a).1) (limit-hi v sv) t,
      λ all. meet_fit v sv all,
    )

-- Demand 3, as the mission puts it. Take a set judged fit, and let every job run for any whole time from one unit to its largest budget. Then every
-- HI job meets its deadline; and where no HI job outruns its LO budget, every job does.
pub demand_three : (s : Set) → Passes s → JudgedFit s → (c : List ℕ) → RunOf s c
    → ((j : ℕ) → HiJobOf s j → InTime s c j) × (NoOverrun s c → (j : ℕ) → JobOf s j → InTime s c j)
unfolding view required required_after
demand_three s h fit c r =
    let v = view s in
    let sv = sound_of s h in
    let t = run_of s h c r in
    let met = meets_e v sv.ordered (limit-hi v sv) c t ((fit_is_exact s h).0 fit c r) in (
      λ j a.
          let q = required-hi v c j (critical_of s j a) in
          in_time s h c r j a.0 q (met j (part_of s j a.0) q),
      λ n j a.
          let q : required v c j ≡ true = rw ((switches_iff s h c r).1 n) refl in
          in_time s h c r j a q (met j (part_of s j a) q),
    )

-- 4. It stays fit ---------------------------------------------------------------------------------------------------------------------

-- The general form: a set that asks no more than a fit one, by any embedding e of its jobs, is fit.
pub stays_fit : (s' s : Set) (e : ℕ → ℕ) → Passes s → Passes s' → Weaker e (view s') (view s) → JudgedFit s → JudgedFit s'
stays_fit s' s e h h' k fit =
    let w = view s' in
    let sw = sound_of s' h' in
    (fit_is_exact s' h').1
    (λ c r.
    let t = run_of s' h' c r in
    runs_meet (view s) (sound_of s h) fit w e k sw.ordered c (λ j a. (t j a).1) (limit-hi w sw) t)

-- Budgets lowered and deadlines moved later, the orders kept.
pub stays_fit_eased : (s' s : Set) → Passes s → Passes s' → Eased s' s → JudgedFit s → JudgedFit s'
stays_fit_eased s' s h h' k fit = stays_fit s' s (λ i. i) h h' (eased_weaker s' s k) fit

-- Jobs left out and the numbers closed up, the orders otherwise kept. Where a job remains the checks pass.
pub stays_fit_without : (keep : ℕ → Bool) (s : Set) → Passes s → (j : ℕ) → JobOf s j → keep j ≡ true → JudgedFit s
    → Passes (without keep s) × JudgedFit (without keep s)
stays_fit_without keep s h j a t fit =
    let sv = sound_of s h in
    let h' = without_passes keep s sv j (part_of s j a) t in
    (h', stays_fit (without keep s) s (old_number keep s) h h' (without_weaker keep s sv.ordered) fit)

-- All of them together.
pub stays_fit_both : (keep : ℕ → Bool) (s' s : Set) → Passes s → Passes s' → Eased s' (without keep s) → JudgedFit s → JudgedFit s'
stays_fit_both keep s' s h h' k fit = stays_fit s' s (old_number keep s) h h' (both_weaker keep s' s (sound_of s h).ordered k) fit

-- 5. Margins --------------------------------------------------------------------------------------------------------------------------

-- A margin is negative exactly when the job is late in some row.
pub margin_is_late : (s : Set) → Passes s → (j : ℕ) → JobOf s j
    → (negative (margin (view s) j) ≡ true) ↔ ((x : Scenario) × (ScenarioOf (view s) x) × (late (view s) (times_of (view s) x) j ≡ true))
margin_is_late s h j a = margin-late (view s) (sound_of s h) j (part_of s j a)

-- It lies in -4,095 .. 65,534, for a deadline of 16 bits.
pub margin_lies : (s : Set) → Passes s → (j : ℕ) → JobOf s j → (job_at s j).deadline ≤ 65535 → IsSigned 4095 65534 (margin (view s) j)
unfolding view
margin_lies s h j a d = margin-range (view s) (sound_of s h) j (part_of s j a) d

-- A set is fit exactly when no margin is negative.
pub fit_by_margins : (s : Set) → Passes s → JudgedFit s ↔ ((j : ℕ) → JobOf s j → negative (margin (view s) j) ≡ false)
fit_by_margins s h =
    let iff = fit_margins (view s) (sound_of s h) in
    (λ fit j a. iff.0 fit j (part_of s j a), λ n. iff.1 (λ j a. n j (part_e s j a)))

-- 6. Room beyond a count --------------------------------------------------------------------------------------------------------------

-- Two sets that differ only beyond their counts have one view, and so the same of whatever is said of a view: every answer of the model is.
pub room_is_no_part {ℓ} : {A : Type ℓ} (answer : View → A) (s t : Set) → Alike s t → answer (view s) ≡ answer (view t)
room_is_no_part answer s t h = ap answer (alike_view s t h)

-- 7. Dominance ------------------------------------------------------------------------------------------------------------------------

-- Over slots had, for times from 0 up, and for a weaker set of which only its orders are asked: its HI jobs may have equal budgets. In LO mode a job
-- has had its time once its image has had its LO budget in scenario 0. A HI job that is unfinished at the switch has had its time once its image has
-- had its HI budget in some scenario J.
pub dominance : (s' s : Set) (e : ℕ → ℕ) → Passes s → Ordered (view s').policy → Weaker e (view s') (view s)
    → (c : List ℕ) → ((i : ℕ) → JobOf s' i → time c i ≤ limit (view s') i)
    → ((t i : ℕ) → JobOf s' i → is_hi (mode_at (view s').policy c t) ≡ false
    → (job_at s (e i)).lo ≤ had_at (view s).policy (lo_times (view s)) t (e i) → time c i ≤ had_at (view s').policy c t i)
    × ((τ i : ℕ) → HiJobOf s' i → is_hi (mode_at (view s').policy c τ) ≡ true
    → ((u : ℕ) → u < τ → is_hi (mode_at (view s').policy c u) ≡ false) → had_at (view s').policy c τ i < time c i
    → (j : ℕ) × HiJobOf s j
    × ((t : ℕ) → (job_at s (e i)).hi ≤ had_at (view s).policy (times_of (view s) (Hi j)) t (e i) → time c i ≤ had_at (view s').policy c t i))
unfolding view
dominance s' s e h o k c r =
    let w = view s' in
    let v = view s in
    let sv = sound_of s h in
    let wc : Within w c = λ i a. r i (part_e s' i a) in (
      λ t i a m l. dominates_lo w v e k o sv c wc t i m (part_of s' i a) l,
      λ τ i a m lo l.
          let p = w.policy in
          let u = unfinished_i p c τ i (part_of s' i a.0) (critical_of s' i a) l in
          let (j, b, q, x, by) = dominates_hi w v e k o sv c wc τ i m lo u in
          (j, job_of s j b q, by),
    )

-- 8. Not vacuous ----------------------------------------------------------------------------------------------------------------------

-- Set P of document 01 passes the checks, is judged fit and has runs. So in every run of it job 1 ends by 10 and job 2 by 6; and where job 1 runs for
-- at most 2 and job 2 for 1, job 3 ends by 6.
pub at_P : Passes (P 10) × JudgedFit (P 10) × RunOf (P 10) (4 ∷ 3 ∷ 2 ∷ [])
    × ((c : List ℕ) → RunOf (P 10) c
    → InTime (P 10) c 1 × InTime (P 10) c 2 × (time c 1 ≤ 2 → time c 2 ≤ 1 → InTime (P 10) c 3))
unfolding P jobs_of_P job blank set job_at at cut
at_P = (
  P_passes,
  P_fit,
  P-run,
  λ c r.
      let (hi, all) = demand_three (P 10) P_passes P_fit c r in (
        hi 1 ((omega arith, omega arith), refl),
        hi 2 ((omega arith, omega arith), refl),
        λ one two. all (P_no_overrun c one two) 3 (omega arith, omega arith),
      ),
)

-- P stays fit with a later deadline for job 1, and without its LO job.
pub P_stays_fit : JudgedFit (P 12) × JudgedFit (without (λ j. not (eqb j 3)) (P 10))
unfolding P jobs_of_P set
P_stays_fit = (
  stays_fit_eased (P 12) (P 10) P_passes P-later P_eased P_fit,
  (stays_fit_without (λ j. not (eqb j 3)) (P 10) P_passes 1 (omega arith, omega arith) refl P_fit).1,
)
