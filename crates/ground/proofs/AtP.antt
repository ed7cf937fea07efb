-- Set P of document 01 meets what the statements ask: each premise is met at P, at P with another deadline for job 1, or at P with its room filled.
--   fit_at_P       == `judge` may find P fit, and then every run of P meets what it requires; the largest times are one
--   unfit_at_P     == with deadline 7 it may find scenario 2, job 1, finish 8, times 4 3 2, and then executing these times says so
--   margins_at_P   == there the margin of job 1 is negative, and so job 1 is late in a row
--   tables_at_P    == in room of 11 entries `make_tables` leaves both tables of the document, and the last entry as it was
--   pick_at_P      == at instant 0, when job 2 has not arrived, job 3 is picked;  part_at_P: a part of the HI table, and an instant past its end
--   crowded        == P with another job and other entries in the room beyond its counts;  crowded_at_P: it is not P, and it is judged as P
-- Assumes nothing.
use Rattle.std.specs.Prelude.{Some as JobPick, Ok as Found}
use Prim.Native.Nat.{ℕ, ◌≤◌, ◌<◌}
use mathlib.Core.Path.{◌≡◌, refl, sym, ◌∙◌, ap}
use mathlib.Core.Bool.{true, false}
use mathlib.Core.List.{List, [], ◌∷◌, ◌++◌}
use native.Mathlib.Omega.{arith}
use lib.IntN.{pos}
use lib.ListN.{get_or, replicate}
use Rattle.model.specs.declared.Level.TheVariants.{Hi}
use Rattle.model.specs.declared.Set.{Set}
use Rattle.model.specs.declared.Ran.{Ran}
use Rattle.model.specs.declared.Scenario.TheVariants.{Hi as HiOf}
use Rattle.model.specs.declared.Judged.{Judged}
use Rattle.model.specs.declared.Verdict.{Verdict}
use Rattle.model.specs.declared.Verdict.TheVariants.{Fit, Unfit}
use Rattle.model.specs.Lists.{at, from, numbers, only, first, any, mem, least, total, largest, cut}
use Rattle.model.specs.Sets.{is_hi, job, blank, set, job_at, order_of, count_of, view, members, critical, span}
use Rattle.model.specs.Runs.{time, start, overruns, mode_now, ready, pick, slot_now, bump, account, step, state_at, mode_at, slot_at, had_at, done_at}
use Rattle.model.specs.Runs.{finish_of, switch_of, dropped_by, outcome, mark, required_after, outcome_in, switch_in, required, late, missed, meets}
use Rattle.model.specs.Scenarios.{places, zeros, hi_jobs, scenarios, lo_times, turn, hi_time, times_of, finish_in, late_in, search, verdict}
use Rattle.model.specs.Scenarios.{times_beside, row, hi_row, rows, worst, margin}
use Rattle.model.specs.Refusals.{good, is_good, applies, placed, first_of, lowest, fault_from, fault, check_count, time_wrong, check_time}
use Rattle.model.specs.Refusals.{budget_wrong, check_budget, check_span, check_lo_order, is_hi_job, check_hi_order, checks, refusal}
use Rattle.model.specs.Tables.{table_of, lo_slot, lo_table, enabled, hi_pick, hi_had_at, hi_slot, hi_table, part}
use Rattle.model.specs.Refusals.{check_room, check_instant}
use Rattle.model.specs.Answers.{picked, lent_pick, unless, judged, margins, tables_refusal, lo_table_in, hi_table_in}
use Rattle.model.proofs.Table.{P, jobs_of_P}
use Rattle.theory.specs.Words.{RunOf, Alike}
use Rattle.theory.specs.Signs.{negative}
use Rattle.theory.proofs.AtP.{P_passes, P_fit, P-run}
use Rattle.ground.specs.Promises.{Judges, FinishRows, Executes, Picks, Parts, PartRefusal, MakesTables}
use Rattle.ground.proofs.Answers.{judged-good}
use Rattle.ground.proofs.Calls.{fit_call, unfit_call, margins_call}
use Rattle.ground.proofs.Room.{judge_alike}

abbrev fit_answer : Judged
fit_answer = record { judgement = Found Fit; times = zeros }

P-judged : Judges (P 10) fit_answer
unfolding times_beside is_good good
P-judged =
    let v = view (P 10) in
    sym (judged-good v (ap is_good P_passes) ∙ ap (λ (x : Verdict). record { judgement = Found x; times = times_beside v x }) P_fit)

pub fit_at_P : Judges (P 10) fit_answer × RunOf (P 10) (4 ∷ 3 ∷ 2 ∷ []) × (meets (view (P 10)) (4 ∷ 3 ∷ 2 ∷ []) ≡ true)
fit_at_P = (P-judged, P-run, ((fit_call (P 10) fit_answer P-judged).0 refl).1 (4 ∷ 3 ∷ 2 ∷ []) P-run)

abbrev late_times : List ℕ
late_times = 4 ∷ 3 ∷ 2 ∷ replicate 61 0

abbrev unfit_answer : Judged
unfit_answer = record { judgement = Found (Unfit (record { scenario = HiOf 2; job = 1; finish = 8 })); times = late_times }

P_unfit : Judges (P 7) unfit_answer
unfolding
    P jobs_of_P at from numbers only first any mem least total largest cut is_hi job blank set job_at order_of count_of view members
    critical span time start overruns mode_now ready pick slot_now bump account step state_at mode_at slot_at done_at finish_of switch_of dropped_by outcome mark
    required_after outcome_in switch_in required late missed places zeros hi_jobs scenarios lo_times turn hi_time times_of finish_in late_in search verdict
    times_beside good is_good applies placed first_of lowest fault_from fault check_count time_wrong check_time budget_wrong check_budget check_span check_lo_order
    is_hi_job check_hi_order checks refusal unless judged
P_unfit = refl

pub unfit_at_P : Judges (P 7) unfit_answer
    × ((x : Ran) → Executes (P 7) late_times x → (x.refusal ≡ good) × (at x.finishes 1 0 ≡ 8))
unfit_at_P = (
  P_unfit,
  λ x p. let y = unfit_call (P 7) unfit_answer (record { scenario = HiOf 2; job = 1; finish = 8 }) P_unfit refl x p in (y.0, y.1),
)

late-margin : negative (at (margins (view (P 7))) 1 (pos 0)) ≡ true
unfolding
    negative P jobs_of_P at from numbers only first any mem least total largest cut is_hi job blank set job_at order_of count_of view members
    critical span time start overruns mode_now ready pick slot_now bump account step state_at mode_at slot_at done_at finish_of switch_of dropped_by outcome mark
    outcome_in places zeros hi_jobs lo_times turn hi_time times_of finish_in row hi_row rows worst margin
    good is_good applies placed first_of lowest fault_from fault check_count time_wrong check_time budget_wrong check_budget check_span check_lo_order
    is_hi_job check_hi_order checks refusal unless margins
late-margin = refl

pub margins_at_P : (l : List (List ℕ)) → FinishRows (P 7) l → (x : ℕ) × (x ≤ 64) × ((job_at (P 7) 1).deadline < at (get_or l x []) 1 0)
margins_at_P l q = (margins_call (P 7) (margins (view (P 7))) l refl q 1).0 late-margin

pub tables_at_P : MakesTables (P 10) (replicate 11 7) (replicate 11 7) good
    (3 ∷ 2 ∷ 3 ∷ 1 ∷ 1 ∷ 0 ∷ 0 ∷ 0 ∷ 0 ∷ 0 ∷ 7 ∷ [])
    (0 ∷ 2 ∷ 2 ∷ 2 ∷ 1 ∷ 1 ∷ 1 ∷ 1 ∷ 0 ∷ 0 ∷ 7 ∷ [])
unfolding
    P jobs_of_P at from numbers only first any mem least total largest cut is_hi job blank set job_at order_of count_of view members
    critical span time start overruns mode_now ready pick slot_now bump account step state_at mode_at slot_at had_at places zeros hi_jobs lo_times
    table_of lo_slot lo_table enabled hi_pick hi_had_at hi_slot hi_table
    good is_good applies placed first_of lowest fault_from fault check_count time_wrong check_time budget_wrong check_budget check_span check_lo_order
    is_hi_job check_hi_order checks refusal check_room unless tables_refusal lo_table_in hi_table_in
tables_at_P = (([], ([], tt)), ((0, 0), 0), ((1, 0), 1), (refl, (refl, refl)))

pub pick_at_P : Picks (2 ∷ 3 ∷ 1 ∷ []) (0 ∷ 1 ∷ 0 ∷ []) (false ∷ false ∷ false ∷ []) 0 (JobPick 3)
unfolding lent_pick picked pick ready first at
pick_at_P = (([], ([], ([], tt))), ((0, 0), 0), ((1, 0), 1), ((2, 0), 2), refl)

pub part_at_P : Parts (0 ∷ 2 ∷ 2 ∷ 2 ∷ 1 ∷ 1 ∷ 1 ∷ 1 ∷ 0 ∷ 0 ∷ []) 2 (2 ∷ 2 ∷ 1 ∷ 1 ∷ 1 ∷ 1 ∷ 0 ∷ 0 ∷ [])
    × PartRefusal (0 ∷ 2 ∷ 2 ∷ 2 ∷ 1 ∷ 1 ∷ 1 ∷ 1 ∷ 0 ∷ 0 ∷ []) 11 (record { number = 10; place = 11 })
unfolding part check_instant applies
part_at_P = ((([], tt), ((0, 0), 0), ((0, 2), 1), refl), (([], tt), ((0, 0), 0), refl))

abbrev crowded : Set
crowded =
    record {
      jobs = jobs_of_P 10 ++ (job 60000 0 Hi 9 0 ∷ replicate 60 blank);
      count = 3;
      lo = record { entries = 2 ∷ 3 ∷ 1 ∷ 4 ∷ replicate 60 9; count = 3 };
      hi = record { entries = 2 ∷ 1 ∷ 2 ∷ replicate 61 0; count = 2 };
    }

P-crowded : Alike (P 10) crowded
unfolding P jobs_of_P set cut order_of count_of
P-crowded =
    record {
      count = refl;
      jobs = refl;
      lo_count = refl;
      lo_order = refl;
      hi_count = refl;
      hi_order = refl;
    }

P_differs : P 10 ≡ crowded → ⊥
unfolding P set at
P_differs e = let z : ◌≡◌ {A = ℕ} 0 2 = ap (λ (s : Set). at s.hi.entries 3 0) e in omega (arith, z)

pub crowded_at_P : Alike (P 10) crowded × (P 10 ≡ crowded → ⊥) × ((r : Judged) → Judges crowded r → r ≡ fit_answer)
crowded_at_P = (P-crowded, P_differs, λ r p. sym (judge_alike (P 10) crowded P-crowded fit_answer r P-judged p))
