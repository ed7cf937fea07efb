-- Set P of document 01 meets what the theorems ask of a set: it passes the checks, is judged fit, and has runs.
--   P_passes, P_fit, P-run  == so it is, by computation
--   P_no_overrun            == what the jobs' times must be for no HI job to outrun its LO budget
--   P_eased, P-later        == P with a later deadline is P eased, and passes the checks
-- Assumes nothing.
use Prim.Native.Nat.{ℕ, zero, suc, ◌-◌, ◌≤◌, ◌<◌}
use mathlib.Core.Path.{◌≡◌, refl, sym, ap, subst}
use mathlib.Core.Bool.{true≢false}
use mathlib.Core.List.{List, [], ◌∷◌}
use native.Mathlib.Omega.{arith}
use lib.Dec.{eqb}
use borrow.Author.Tests.{eqb-true, eqb-false}
use Rattle.model.specs.declared.Level.TheVariants.{Hi}
use Rattle.model.specs.Lists.{at, from, numbers, only, first, any, mem, least, total, largest, cut}
use Rattle.model.specs.Sets.{is_hi, job, blank, set, job_at, order_of, count_of, view, members, critical, span}
use Rattle.model.specs.Runs.{time, start, overruns, mode_now, ready, pick, slot_now, bump, account, step, state_at, mode_at, slot_at, done_at}
use Rattle.model.specs.Runs.{finish_of, switch_of, dropped_by, outcome, mark, required_after, outcome_in, switch_in, required, late, missed}
use Rattle.model.specs.Runs.{limit, in_range, is_run}
use Rattle.model.specs.Scenarios.{places, hi_jobs, scenarios, lo_times, turn, hi_time, times_of, finish_in, late_in, search, verdict}
use Rattle.model.specs.Refusals.{good, is_good, applies, placed, first_of, lowest, fault_from, fault, check_count, time_wrong, check_time}
use Rattle.model.specs.Refusals.{budget_wrong, check_budget, check_span, check_lo_order, is_hi_job, check_hi_order, checks, refusal}
use Rattle.model.proofs.Table.{P, jobs_of_P}
use Rattle.theory.specs.Eased.{EasedJob, Eased}
use Rattle.theory.specs.Words.{Passes, RunOf, NoOverrun, JudgedFit}
use Rattle.laws.proofs.Bools.{split}

pub P_passes : Passes (P 10)
unfolding
    P jobs_of_P at from numbers only first any mem total largest cut is_hi job blank set job_at order_of count_of view members critical span hi_jobs
    good is_good applies placed first_of lowest fault_from fault check_count time_wrong check_time budget_wrong check_budget check_span check_lo_order is_hi_job
    check_hi_order checks refusal
P_passes = refl

pub P_fit : JudgedFit (P 10)
unfolding
    P jobs_of_P at from numbers only first any mem least total largest cut is_hi job blank set job_at order_of count_of view members critical span
    time start overruns mode_now ready pick slot_now bump account step state_at mode_at slot_at done_at finish_of switch_of dropped_by outcome mark required_after
    outcome_in switch_in required late missed places hi_jobs scenarios lo_times turn hi_time times_of finish_in late_in search verdict
P_fit = refl

-- the largest times are a run
pub P-run : RunOf (P 10) (4 ∷ 3 ∷ 2 ∷ [])
unfolding
    P jobs_of_P at from numbers only any cut is_hi job blank set job_at order_of count_of view members critical time limit in_range is_run
P-run = refl

pub P_no_overrun : (c : List ℕ) → time c 1 ≤ 2 → time c 2 ≤ 1 → NoOverrun (P 10) c
unfolding P jobs_of_P job blank set job_at at cut is_hi
P_no_overrun c one two j (r, hi) =
    split (eqb j 1)
    (λ e. subst (λ i. time c i ≤ (job_at (P 10) i).lo) (sym (eqb-true j 1 e)) one)
    (λ n.
    split (eqb j 2)
    (λ e. subst (λ i. time c i ≤ (job_at (P 10) i).lo) (sym (eqb-true j 2 e)) two)
    (λ m.
    let a : j ≡ 1 → ⊥ = eqb-false j 1 n in
    let b : j ≡ 2 → ⊥ = eqb-false j 2 m in
    let three : j ≡ 3 = omega (arith, r, a, b) in
    absurd (true≢false (sym (ap is_hi (subst (λ i. (job_at (P 10) i).level ≡ Hi) three hi))))))

-- P with a later deadline for job 1 is P eased
pub P_eased : Eased (P 12) (P 10)
unfolding P jobs_of_P job blank set job_at order_of at cut
P_eased =
    record {
      count = refl;
      lo_order = refl;
      hi_order = refl;
      job = λ j p q. subst (λ i. EasedJob (job_at (P 12) i) (job_at (P 10) i)) (pred_suc j p) (of (j - 1) (omega arith));
    }
  where
    pred_suc : (j : ℕ) → 1 ≤ j → suc (j - 1) ≡ j
    pred_suc j p = omega arith

    of : (i : ℕ) → i < 3 → EasedJob (job_at (P 12) (suc i)) (job_at (P 10) (suc i))
    of zero q = record { arrival = refl; level = refl; lo = omega arith; hi = omega arith; deadline = omega arith }
    of (suc zero) q = record { arrival = refl; level = refl; lo = omega arith; hi = omega arith; deadline = omega arith }
    of (suc (suc zero)) q = record { arrival = refl; level = refl; lo = omega arith; hi = omega arith; deadline = omega arith }
    of (suc (suc (suc i))) q = absurd (omega arith)

pub P-later : Passes (P 12)
unfolding
    P jobs_of_P at from numbers only first any mem total largest cut is_hi job blank set job_at order_of count_of view members critical span hi_jobs
    good is_good applies placed first_of lowest fault_from fault check_count time_wrong check_time budget_wrong check_budget check_span check_lo_order is_hi_job
    check_hi_order checks refusal
P-later = refl
