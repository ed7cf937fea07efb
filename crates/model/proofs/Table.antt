-- Document 01, "Sets on both sides of a limit", and more sets of the kind, as one table under one statement: what the definitions give for
-- each set is what the document says of it. Every proof is a computation.
--   P d                == set P with deadline d for job 1; the document's own is P 10;  jobs_of_P d: its jobs
--   Q h                == set Q with HI budget h for job 3; the document's own is Q 2
--   B                  == a set whose HI table needs rule (b)
--   idling             == a set with a run in which LO jobs are dropped and the processor idles
--   tardy              == a set with a LO job that ends late, before any switch
--   alone x            == the LO job x alone;  ordered lo hi: P's jobs with these orders
--   counted n lo hi s  == s with these counts;  crowded: P with other jobs and entries in the room beyond its counts
--   filled n d l       == l, and d at those of n places that it lacks;  padded l: l, and 0 at the others of 64 places
--   room n             == lent room of n entries
--   answer n k         == refusal n with place k; good is 0 with 0
--   scenario J         == scenario J, 0 for LO;  unfit J j t: unfit by scenario J, job j, finish t
--   Clause             == what the table can say of a set;  Holds c: that the definitions give it;  AllHold l: all of l hold
--   table              == the clauses: the document's, in its order, then the others
--   table_holds        == all of them hold;  a & b: the pair of two proofs
-- Assumes nothing.
use Rattle.std.specs.Prelude.{None as Never, Some as At, Option, Err as Refused, Ok as Found, Result}
use Prim.Native.Nat.{ℕ, ◌-◌}
use mathlib.Core.Path.{◌≡◌, refl}
use mathlib.Core.Bool.{Bool, true, false, cond}
use mathlib.Core.List.{List, [], ◌∷◌, ◌++◌, map, flat_map}
use lib.Dec.{eqb}
use lib.IntN.{ℤ, pos, negsuc}
use lib.ListN.{length, replicate}
use Rattle.model.specs.declared.Level.TheVariants.{Lo, Hi}
use Rattle.model.specs.declared.Job.{Job}
use Rattle.model.specs.declared.Set.{Set}
use Rattle.model.specs.declared.Refusal.{Refusal}
use Rattle.model.specs.declared.Scenario.{Scenario}
use Rattle.model.specs.declared.Scenario.TheVariants.{Lo as scenario_lo, Hi as scenario_hi}
use Rattle.model.specs.declared.Verdict.{Verdict}
use Rattle.model.specs.declared.Verdict.TheVariants.{Fit, Unfit}
use Rattle.model.specs.Lists.{at, from, numbers, only, first, any, mem, least, total, largest, cut}
use Rattle.model.specs.Sets.{is_hi, job, blank, set, job_at, order_of, count_of, view, members, critical, span}
use Rattle.model.specs.Runs.{time, start, overruns, mode_now, ready, pick, slot_now, bump, account, step, state_at, mode_at, slot_at}
use Rattle.model.specs.Runs.{had_at, done_at}
use Rattle.model.specs.Runs.{finish_of, switch_of, dropped_by, Outcome, finished, dropped, outcome, mark, required_after, outcome_in}
use Rattle.model.specs.Runs.{switch_in, required, late, missed, meets, limit, in_range, is_run}
use Rattle.model.specs.Scenarios.{places, zeros, hi_jobs, scenarios, lo_times, turn, hi_time, times_of, finish_in, late_in, search, verdict}
use Rattle.model.specs.Scenarios.{times_beside, row, hi_row, rows, worst, worsts_beside, margin}
use Rattle.model.specs.Tables.{table_of, lo_slot, lo_table, enabled, hi_pick, hi_had_at, hi_slot, hi_table, part}
use Rattle.model.specs.Refusals.{good, is_good, applies, placed, first_of, lowest, fault_from, fault, check_count, time_wrong, check_time}
use Rattle.model.specs.Refusals.{budget_wrong, check_budget, check_span, check_lo_order, is_hi_job, check_hi_order, checks, refusal}
use Rattle.model.specs.Refusals.{check_room, check_run, check_instant}
use Rattle.model.specs.Answers.{unless, judged as judged_of, finish_rows as rows_of, worsts as worsts_of, margins as margins_of, ran as ran_of}
use Rattle.model.specs.Answers.{assessed as assessed_of, tables_refusal, lo_table_in, hi_table_in, slots_refusal, slots_in}
use Rattle.model.specs.Texts.{digit, spelled, decimal, fields, line, level_number, job_numbers, order_line, jobs_of, text_of}
use Rattle.model.specs.Printed.{fit_word, unfit_word, refused_word, signed, scenario_number, refused_text, fit_text, unfit_text, judged_text}
use Rattle.model.specs.Printed.{printed}

unfoldable pub jobs_of_P : ℕ → List Job
jobs_of_P d = job 0 d Hi 2 4 ∷ job 1 6 Hi 1 3 ∷ job 0 6 Lo 2 2 ∷ []

unfoldable pub P : ℕ → Set
P d = set (jobs_of_P d) (2 ∷ 3 ∷ 1 ∷ []) (2 ∷ 1 ∷ [])

ordered : List ℕ → List ℕ → Set
ordered lo hi = set (jobs_of_P 10) lo hi

Q : ℕ → Set
Q h = set (job 0 2 Lo 2 2 ∷ job 0 10 Hi 1 3 ∷ job 2 5 Hi 2 h ∷ []) (1 ∷ 3 ∷ 2 ∷ []) (2 ∷ 3 ∷ [])

B : Set
B = set (job 0 20 Hi 2 3 ∷ job 0 20 Hi 1 2 ∷ job 2 22 Lo 1 1 ∷ []) (3 ∷ 2 ∷ 1 ∷ []) (2 ∷ 1 ∷ [])

idling : Set
idling = set (job 0 10 Hi 1 3 ∷ job 0 10 Lo 2 2 ∷ job 4 10 Lo 1 1 ∷ []) (1 ∷ 2 ∷ 3 ∷ []) (1 ∷ [])

tardy : Set
tardy = set (job 0 1 Lo 2 2 ∷ job 0 9 Hi 1 2 ∷ []) (1 ∷ 2 ∷ []) (2 ∷ [])

alone : Job → Set
alone x = set (x ∷ []) (1 ∷ []) []

counted : ℕ → ℕ → ℕ → Set → Set
counted n lo hi s =
    record {
      jobs = s.jobs;
      count = n;
      lo = record { entries = s.lo.entries; count = lo };
      hi = record { entries = s.hi.entries; count = hi };
    }

crowded : Set
crowded =
    counted 3 3 2 (set (jobs_of_P 10 ++ (job 60000 0 Hi 9 0 ∷ job 0 1 Lo 5 7 ∷ [])) (2 ∷ 3 ∷ 1 ∷ 4 ∷ 9 ∷ []) (2 ∷ 1 ∷ 4 ∷ 2 ∷ []))

filled {ℓ} : {A : Type ℓ} → ℕ → A → List A → List A
filled n d l = l ++ replicate (n - length l) d

padded : List ℕ → List ℕ
padded l = filled 64 0 l

room : ℕ → List ℕ
room n = replicate n 7

answer : ℕ → ℕ → Refusal
answer n k = record { number = n; place = k }

scenario : ℕ → Scenario
scenario J = cond (eqb J 0) scenario_lo (scenario_hi J)

unfit : ℕ → ℕ → ℕ → Result Verdict Refusal
unfit J j t = Found (Unfit (record { scenario = scenario J; job = j; finish = t }))

pub data Clause : Type 0 where
  -- checks 2 to 7 of the set give this answer
  checked : Set → Refusal → Clause
  -- the judgement, and the running times beside it
  judged : Set → Result Verdict Refusal → List ℕ → Clause
  -- the worst finishes beside the judgement
  assessed : Set → List ℕ → Clause
  -- the verdict over these scenarios alone
  searched : Set → List ℕ → Verdict → Clause
  -- the finish rows
  finish_rows : Set → List (List ℕ) → Clause
  -- the worst finishes, and the margins
  margins : Set → List ℕ → List ℤ → Clause
  -- the LO table, and the HI table
  tables : Set → List ℕ → List ℕ → Clause
  -- what a lent LO and HI table hold afterwards, and the answer
  lent : Set → List ℕ → List ℕ → List ℕ → List ℕ → Refusal → Clause
  -- the part of the HI table from an instant, and the companion answer
  part_from : Set → ℕ → List ℕ → Refusal → Clause
  -- the execution of the run with these times: the answer, each job's finish, and the switch
  executed : Set → List ℕ → Refusal → List ℕ → Option ℕ → Clause
  -- a run may have these times, or may not
  admits : Set → List ℕ → Bool → Clause
  -- the run with these times: each job's outcome, the switch, and the lowest late job whose deadline is required, 0 for none
  run : Set → List ℕ → List Outcome → Option ℕ → ℕ → Clause
  -- who gets each slot of that run
  slots : Set → List ℕ → List ℕ → Clause
  -- what a table lent for those slots holds afterwards, and the answer
  slots_lent : Set → List ℕ → List ℕ → List ℕ → Refusal → Clause
  -- the text of the set
  texts : Set → List ℕ → Clause
  -- what the program prints for it
  prints : Set → List ℕ → Clause

Holds : Clause → Type 0
unfolding
    filled padded room answer scenario unfit
    at from numbers only first any mem least total largest cut
    is_hi job blank set job_at order_of count_of view members critical span
    time start overruns mode_now ready pick slot_now bump account step state_at mode_at slot_at had_at done_at finish_of switch_of dropped_by outcome mark
    required_after outcome_in switch_in required late missed meets limit in_range is_run
    places zeros hi_jobs scenarios lo_times turn hi_time times_of finish_in late_in search verdict times_beside row hi_row rows worst worsts_beside margin
    table_of lo_slot lo_table enabled hi_pick hi_had_at hi_slot hi_table part
    good is_good applies placed first_of lowest fault_from fault check_count time_wrong check_time budget_wrong check_budget check_span
    check_lo_order is_hi_job check_hi_order checks refusal check_room check_run check_instant
    unless judged_of assessed_of rows_of worsts_of margins_of ran_of tables_refusal lo_table_in hi_table_in slots_refusal slots_in
    flat_map digit spelled decimal fields line level_number job_numbers order_line jobs_of text_of
    fit_word unfit_word refused_word signed scenario_number refused_text fit_text unfit_text judged_text printed
Holds (checked s r) = refusal (view s) ≡ r
Holds (judged s x c) = judged_of (view s) ≡ record { judgement = x; times = padded c }
Holds (assessed s w) = assessed_of (view s) ≡ record { judged = judged_of (view s); worsts = padded w }
Holds (searched s l x) = search (view s) (map scenario l) ≡ x
Holds (finish_rows s l) = rows_of (view s) ≡ filled 65 (padded []) (map padded l)
Holds (margins s w m) = (worsts_of (view s) ≡ padded w) × (margins_of (view s) ≡ filled 64 (pos 0) m)
Holds (tables s lo hi) = (lo_table (view s) ≡ lo) × (hi_table (view s) ≡ hi)
Holds (lent s lo hi made_lo made_hi r) =
    (lo_table_in (view s) lo hi ≡ made_lo) × (hi_table_in (view s) lo hi ≡ made_hi) × (tables_refusal (view s) (length lo) (length hi) ≡ r)
Holds (part_from s t l r) = (part (hi_table (view s)) t ≡ l) × (check_instant (hi_table (view s)) t ≡ r)
Holds (executed s c r l x) = ran_of (view s) c ≡ record { refusal = r; finishes = padded l; switch = x }
Holds (admits s c b) = is_run (view s) c ≡ b
Holds (run s c l x j) =
    (map (outcome_in (view s) c) (members (view s).policy) ≡ l) ×
    (switch_in (view s) c ≡ x) ×
    (late_in (view s) c ≡ j) ×
    (meets (view s) c ≡ eqb j 0)
Holds (slots s c l) = map (slot_at (view s).policy c) (from 0 (span (view s))) ≡ l
Holds (slots_lent s c table made r) = (slots_in (view s) c table ≡ made) × (slots_refusal (view s) c (length table) ≡ r)
Holds (texts s t) = text_of s ≡ t
Holds (prints s l) = printed (record { refusal = good; set = s }) ≡ l

pub AllHold : List Clause → Type 0
AllHold [] = Unit {0}
AllHold (c ∷ l) = Holds c × AllHold l

pub table : List Clause
table =
    -- P: "FIT 10", and "for each job its number, worst finish and margin" 1 8 2, 2 4 2, 3 3 3.
    judged (P 10) (Found Fit) [] ∷
    margins (P 10) (8 ∷ 4 ∷ 3 ∷ []) (pos 2 ∷ pos 2 ∷ pos 3 ∷ []) ∷
    assessed (P 10) (8 ∷ 4 ∷ 3 ∷ []) ∷
    -- Its rows, and each row's run by itself: "each job's finish, 0 for a dropped job, and the instant of the switch if there is one".
    finish_rows (P 10) ((5 ∷ 2 ∷ 3 ∷ []) ∷ (7 ∷ 2 ∷ 3 ∷ []) ∷ (8 ∷ 4 ∷ 0 ∷ []) ∷ []) ∷
    executed (P 10) (2 ∷ 1 ∷ 2 ∷ []) (answer 0 0) (5 ∷ 2 ∷ 3 ∷ []) Never ∷
    executed (P 10) (4 ∷ 1 ∷ 2 ∷ []) (answer 0 0) (7 ∷ 2 ∷ 3 ∷ []) (At 5) ∷
    executed (P 10) (4 ∷ 3 ∷ 2 ∷ []) (answer 0 0) (8 ∷ 4 ∷ 0 ∷ []) (At 2) ∷
    -- "Set P", line by line; and a set without a HI job: "no line if its count is 0".
    texts (P 10)
    (51 ∷ 10 ∷
    48 ∷ 32 ∷ 49 ∷ 48 ∷ 32 ∷ 49 ∷ 32 ∷ 50 ∷ 32 ∷ 52 ∷ 10 ∷
    49 ∷ 32 ∷ 54 ∷ 32 ∷ 49 ∷ 32 ∷ 49 ∷ 32 ∷ 51 ∷ 10 ∷
    48 ∷ 32 ∷ 54 ∷ 32 ∷ 48 ∷ 32 ∷ 50 ∷ 32 ∷ 50 ∷ 10 ∷
    51 ∷ 10 ∷
    50 ∷ 32 ∷ 51 ∷ 32 ∷ 49 ∷ 10 ∷
    50 ∷ 10 ∷
    50 ∷ 32 ∷ 49 ∷ 10 ∷
    []) ∷
    texts (alone (job 0 1 Lo 2 2))
    (49 ∷ 10 ∷
    48 ∷ 32 ∷ 49 ∷ 32 ∷ 48 ∷ 32 ∷ 50 ∷ 32 ∷ 50 ∷ 10 ∷
    49 ∷ 10 ∷
    49 ∷ 10 ∷
    48 ∷ 10 ∷
    []) ∷
    -- "It prints, whole": FIT 10, 1 8 2, 2 4 2, 3 3 3.
    prints (P 10)
    (70 ∷ 73 ∷ 84 ∷ 32 ∷ 49 ∷ 48 ∷ 10 ∷
    49 ∷ 32 ∷ 56 ∷ 32 ∷ 50 ∷ 10 ∷
    50 ∷ 32 ∷ 52 ∷ 32 ∷ 50 ∷ 10 ∷
    51 ∷ 32 ∷ 51 ∷ 32 ∷ 51 ∷ 10 ∷
    []) ∷
    -- "An unfit set gives `UNFIT scenario job finish` and one line of the N running times": UNFIT 2 1 8, and 4 3 2.
    prints (P 7)
    (85 ∷ 78 ∷ 70 ∷ 73 ∷ 84 ∷ 32 ∷ 50 ∷ 32 ∷ 49 ∷ 32 ∷ 56 ∷ 10 ∷
    52 ∷ 32 ∷ 51 ∷ 32 ∷ 50 ∷ 10 ∷
    []) ∷
    -- "A refusal gives `REFUSED number place`": REFUSED 4 3.
    prints (Q 2) (82 ∷ 69 ∷ 70 ∷ 85 ∷ 83 ∷ 69 ∷ 68 ∷ 32 ∷ 52 ∷ 32 ∷ 51 ∷ 10 ∷ []) ∷
    -- "P: LO table 3 2 3 1 1 0 0 0 0 0. HI table 0 2 2 2 1 1 1 1 0 0."
    tables (P 10) (3 ∷ 2 ∷ 3 ∷ 1 ∷ 1 ∷ 0 ∷ 0 ∷ 0 ∷ 0 ∷ 0 ∷ []) (0 ∷ 2 ∷ 2 ∷ 2 ∷ 1 ∷ 1 ∷ 1 ∷ 1 ∷ 0 ∷ 0 ∷ []) ∷
    -- "Part from 2: 2 2 1 1 1 1 0 0; from 10 empty, good; from 11 refusal 10."
    part_from (P 10) 2 (2 ∷ 2 ∷ 1 ∷ 1 ∷ 1 ∷ 1 ∷ 0 ∷ 0 ∷ []) (answer 0 0) ∷
    part_from (P 10) 10 [] (answer 0 0) ∷
    part_from (P 10) 11 [] (answer 10 11) ∷
    -- "P with D of job 1 at 8: fit, margin 0."
    judged (P 8) (Found Fit) [] ∷
    margins (P 8) (8 ∷ 4 ∷ 3 ∷ []) (pos 0 ∷ pos 2 ∷ pos 3 ∷ []) ∷
    -- "At 7: unfit, scenario 2, job 1, finish 8, times 4 3 2."
    judged (P 7) (unfit 2 1 8) (4 ∷ 3 ∷ 2 ∷ []) ∷
    assessed (P 7) [] ∷
    -- "At 6: scenario 1, job 1, finish 7, times 4 1 2."
    judged (P 6) (unfit 1 1 7) (4 ∷ 1 ∷ 2 ∷ []) ∷
    -- "At 4: scenario 0, job 1, finish 5, times 2 1 2."
    judged (P 4) (unfit 0 1 5) (2 ∷ 1 ∷ 2 ∷ []) ∷
    -- "One LO job, A 0, D 1, budget 1: fit. D 0: refusal 3, job 1. D 1, budget 2: unfit, finish 2." Its margin is -1.
    judged (alone (job 0 1 Lo 1 1)) (Found Fit) [] ∷
    judged (alone (job 0 0 Lo 1 1)) (Refused (answer 3 1)) [] ∷
    judged (alone (job 0 1 Lo 2 2)) (unfit 0 1 2) (2 ∷ []) ∷
    margins (alone (job 0 1 Lo 2 2)) (2 ∷ []) (negsuc 0 ∷ []) ∷
    -- "One LO job, A 0, D 4,096, budget 4,096: fit; budget 4,097: refusal 5 with 4,097." Of the first, that no check refuses it.
    checked (alone (job 0 4096 Lo 4096 4096)) (answer 0 0) ∷
    checked (alone (job 0 4096 Lo 4097 4097)) (answer 5 4097) ∷
    -- "Q: .. Refusal 4, job 3." And then "finish tables and margins come back all 0".
    judged (Q 2) (Refused (answer 4 3)) [] ∷
    assessed (Q 2) [] ∷
    finish_rows (Q 2) [] ∷
    margins (Q 2) [] [] ∷
    -- "Judged by scenarios 0 and 2 alone it would pass"; by 0, 2 and 3 too.
    searched (Q 2) (0 ∷ 2 ∷ []) Fit ∷
    searched (Q 2) (0 ∷ 2 ∷ 3 ∷ []) Fit ∷
    -- "Yet with times 1 3 2 job 3 ends at 6", after its deadline 5, which that run requires.
    admits (Q 2) (1 ∷ 3 ∷ 2 ∷ []) true ∷
    run (Q 2) (1 ∷ 3 ∷ 2 ∷ []) (finished 1 ∷ finished 4 ∷ finished 6 ∷ []) (At 2) 3 ∷
    -- "Q with HI budget 3 for job 3: unfit, scenario 3, job 3, finish 8, times 2 3 3."
    judged (Q 3) (unfit 3 3 8) (2 ∷ 3 ∷ 3 ∷ []) ∷
    -- "Run 2 3 2 ends job 3 at 4; run 1 3 2 ends it at 6."
    executed (Q 3) (2 ∷ 3 ∷ 2 ∷ []) (answer 0 0) (2 ∷ 7 ∷ 4 ∷ []) (At 5) ∷
    executed (Q 3) (1 ∷ 3 ∷ 2 ∷ []) (answer 0 0) (1 ∷ 4 ∷ 6 ∷ []) (At 2) ∷
    -- "(b) H(t) < L(t)." By it job 1 gets slot 2, in which the LO table runs job 3.
    tables B (2 ∷ 1 ∷ 3 ∷ 1 ∷ 0 ∷ 0 ∷ 0 ∷ 0 ∷ []) (2 ∷ 2 ∷ 1 ∷ 1 ∷ 1 ∷ 0 ∷ 0 ∷ 0 ∷ []) ∷
    -- "In HI mode every unfinished LO job, also one that arrives later, is dropped and never runs." Jobs 2 and 3; the slots stay idle.
    run idling (2 ∷ 2 ∷ 1 ∷ []) (finished 2 ∷ dropped ∷ dropped ∷ []) (At 1) 0 ∷
    slots idling (2 ∷ 2 ∷ 1 ∷ []) (1 ∷ 1 ∷ 0 ∷ 0 ∷ 0 ∷ 0 ∷ 0 ∷ 0 ∷ 0 ∷ 0 ∷ []) ∷
    -- "Only a longer running time switches."
    run idling (1 ∷ 2 ∷ 1 ∷ []) (finished 1 ∷ finished 3 ∷ finished 5 ∷ []) Never 0 ∷
    -- "A run without a switch requires every deadline; a run with one requires those of the HI jobs only." Job 1 is late in both.
    run tardy (2 ∷ 1 ∷ []) (finished 2 ∷ finished 3 ∷ []) Never 1 ∷
    run tardy (2 ∷ 2 ∷ []) (finished 2 ∷ finished 4 ∷ []) (At 3) 0 ∷
    -- "1 to its LO budget for a LO job, 1 to its HI budget for a HI job." 9: "A running time asked for lies outside its range."
    admits (P 10) (1 ∷ 1 ∷ 1 ∷ []) true ∷
    admits (P 10) (4 ∷ 3 ∷ 2 ∷ []) true ∷
    admits (P 10) (4 ∷ 3 ∷ 3 ∷ []) false ∷
    executed (P 10) (5 ∷ 3 ∷ 2 ∷ []) (answer 9 1) [] Never ∷
    executed (P 10) (2 ∷ 0 ∷ 3 ∷ []) (answer 9 2) [] Never ∷
    executed (Q 2) (0 ∷ 0 ∷ 0 ∷ []) (answer 4 3) [] Never ∷
    -- "A signed number from -4,095 to 65,534": the largest.
    margins (alone (job 0 65535 Lo 1 1)) (1 ∷ []) (pos 65534 ∷ []) ∷
    -- "Room beyond a count is no part of the set: no answer depends on it."
    finish_rows crowded ((5 ∷ 2 ∷ 3 ∷ []) ∷ (7 ∷ 2 ∷ 3 ∷ []) ∷ (8 ∷ 4 ∷ 0 ∷ []) ∷ []) ∷
    executed crowded (4 ∷ 3 ∷ 2 ∷ 9 ∷ 9 ∷ []) (answer 0 0) (8 ∷ 4 ∷ 0 ∷ []) (At 2) ∷
    -- "Entries of the lent room beyond that stay untouched .. Both tables are made for unfit sets too."
    lent tardy (room 6) (room 5) (1 ∷ 1 ∷ 2 ∷ 0 ∷ 7 ∷ 7 ∷ []) (0 ∷ 0 ∷ 2 ∷ 2 ∷ 7 ∷ []) (answer 0 0) ∷
    -- 8: "A lent table is shorter than the span. The span." With a refusal "everything lent is untouched".
    lent tardy (room 3) (room 4) (room 3) (room 4) (answer 8 4) ∷
    lent tardy (room 4) (room 3) (room 4) (room 3) (answer 8 4) ∷
    lent (Q 2) (room 1) (room 12) (room 1) (room 12) (answer 4 3) ∷
    -- "Executing one given run": its slots in lent room, refused by 8 before 9.
    slots_lent (P 10) (4 ∷ 3 ∷ 2 ∷ []) (room 11) (3 ∷ 2 ∷ 2 ∷ 2 ∷ 1 ∷ 1 ∷ 1 ∷ 1 ∷ 0 ∷ 0 ∷ 7 ∷ []) (answer 0 0) ∷
    slots_lent (P 10) (5 ∷ 3 ∷ 2 ∷ []) (room 9) (room 9) (answer 8 10) ∷
    slots_lent (P 10) (5 ∷ 3 ∷ 2 ∷ []) (room 10) (room 10) (answer 9 1) ∷
    -- 2: "N is 0 or above 64, the LO order's count isn't N, or the HI order's isn't the number of HI jobs. N as given."
    checked (counted 0 0 0 (P 10)) (answer 2 0) ∷
    checked (counted 65 65 2 (P 10)) (answer 2 65) ∷
    checked (counted 3 2 2 (P 10)) (answer 2 3) ∷
    checked (counted 3 3 1 (P 10)) (answer 2 3) ∷
    -- "A set has N jobs, numbered 1 to N, N from 1 to 64."
    checked (set (replicate 64 (job 0 1 Lo 1 1)) (numbers 64) []) (answer 0 0) ∷
    checked (set (replicate 63 (job 0 1 Lo 1 1) ++ (job 0 0 Lo 1 1 ∷ [])) (numbers 64) []) (answer 3 64) ∷
    -- 3: "Some D is not after its A. Lowest such job." Job 1 breaks 4, but "each check goes over all jobs before the next begins".
    checked (set (job 0 5 Lo 0 0 ∷ job 3 3 Lo 1 1 ∷ job 4 3 Lo 1 1 ∷ []) (1 ∷ 2 ∷ 3 ∷ []) []) (answer 3 2) ∷
    -- 4: "The LO budget is at least 1. A LO job has equal budgets." The rule for a HI job is Q's.
    checked (alone (job 0 5 Lo 0 0)) (answer 4 1) ∷
    checked (alone (job 0 5 Lo 1 2)) (answer 4 1) ∷
    -- 5: "The span is the largest arrival plus the sum of all HI budgets."
    checked (alone (job 1 5 Lo 4096 4096)) (answer 5 4097) ∷
    -- 6: "An entry is 0, above N, or repeats. First such position, from 1."
    checked (ordered (2 ∷ 0 ∷ 1 ∷ []) (2 ∷ 1 ∷ [])) (answer 6 2) ∷
    checked (ordered (4 ∷ 3 ∷ 1 ∷ []) (2 ∷ 1 ∷ [])) (answer 6 1) ∷
    checked (ordered (2 ∷ 3 ∷ 2 ∷ []) (2 ∷ 1 ∷ [])) (answer 6 3) ∷
    -- 7: "An entry is no HI job, or repeats. First such position."
    checked (ordered (2 ∷ 3 ∷ 1 ∷ []) (2 ∷ 3 ∷ [])) (answer 7 2) ∷
    checked (ordered (2 ∷ 3 ∷ 1 ∷ []) (1 ∷ 1 ∷ [])) (answer 7 2) ∷
    checked (ordered (2 ∷ 3 ∷ 1 ∷ []) (4 ∷ 1 ∷ [])) (answer 7 1) ∷
    -- "The first that applies, in this order, is given": of 2 and 3, 4 and 5, 5 and 6, 6 and 7.
    checked (counted 1 2 0 (alone (job 0 0 Lo 1 1))) (answer 2 1) ∷
    checked (alone (job 0 5 Lo 4096 4097)) (answer 4 1) ∷
    checked (set (job 0 5 Lo 4097 4097 ∷ []) (2 ∷ []) []) (answer 5 4097) ∷
    checked (ordered (2 ∷ 3 ∷ 3 ∷ []) (3 ∷ 1 ∷ [])) (answer 6 3) ∷
    []

infixr 5 ◌&◌
◌&◌ : {A B : Type 0} → A → B → A × B
a & b = (a, b)

pub table_holds : AllHold table
unfolding Holds AllHold table jobs_of_P P ordered Q B idling tardy alone counted crowded
table_holds =
    -- P
    refl & (refl, refl) & refl & refl & refl & refl & refl & refl & refl & refl & refl & refl &
    (refl, refl) & (refl, refl) & (refl, refl) & (refl, refl) &
    -- P with another deadline
    refl & (refl, refl) & refl & refl & refl & refl &
    -- one LO job
    refl & refl & refl & (refl, refl) & refl & refl &
    -- Q
    refl & refl & refl & (refl, refl) & refl & refl & refl & (refl, refl, refl, refl) & refl & refl & refl &
    -- B, idling, tardy
    (refl, refl) & (refl, refl, refl, refl) & refl & (refl, refl, refl, refl) & (refl, refl, refl, refl) & (refl, refl, refl, refl) &
    -- running times
    refl & refl & refl & refl & refl & refl &
    -- the largest margin, and room
    (refl, refl) & refl & refl & (refl, refl, refl) & (refl, refl, refl) & (refl, refl, refl) & (refl, refl, refl) &
    -- slots
    (refl, refl) & (refl, refl) & (refl, refl) &
    -- refusals 2 to 7
    refl & refl & refl & refl & refl & refl & refl & refl & refl & refl &
    refl & refl & refl & refl & refl & refl & refl & refl & refl & refl &
    tt
