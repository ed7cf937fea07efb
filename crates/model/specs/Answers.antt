-- The answers of document 01 for every set, refused or not, by its view. "No verdict comes with [a refusal], and no part but the empty one;
-- .. running times, finishes, finish tables and margins come back all 0, and everything lent is untouched."
--   picked j                  == the pick as an answer: a job, or idle;  lent_pick: the pick over lent numbers
--   judged v                  == the judgement, and the times beside it;  assessed v: with them, where it is fit, the worst finishes
--   finish_rows v             == the finish rows;  worsts v, margins v: worst finishes and margins
--   ran v c                   == the execution of the run with times c
--   tables_refusal v m n      == the refusal of making both tables into room of lengths m and n
--   lo_table_in, hi_table_in  == what the two lent tables hold afterwards
--   slots_refusal v c n       == the refusal of writing the slots of the run with times c into room of length n;  slots_in: what the room holds afterwards
use Rattle.std.specs.Prelude.{ℕ, suc, Bool, cond, List, [], ◌∷◌, ◌++◌, map, eqb, ℤ, pos, length, drop, replicate, None as Never, Some as JobPick, None as Idle, Option, Err as Refused, Ok as Found}
use Rattle.model.specs.declared.Refusal.{Refusal}
use Rattle.model.specs.declared.Ran.{Ran}
use Rattle.model.specs.declared.Judged.{Judged}
use Rattle.model.specs.declared.Assessed.{Assessed}
use Rattle.model.specs.Lists.{at, numbers}
use Rattle.model.specs.Sets.{View, span}
use Rattle.model.specs.Runs.{pick, slot_at, outcome_in, mark, switch_in}
use Rattle.model.specs.Scenarios.{places, zeros, verdict, times_beside, rows, worst, worsts_beside, margin}
use Rattle.model.specs.Tables.{table_of, lo_table, hi_table}
use Rattle.model.specs.Refusals.{is_good, first_of, refusal, check_run, check_room}

-- "0 for idle, else a job number"
unfoldable pub picked : ℕ → Option ℕ
picked j = cond (eqb j 0) Idle (JobPick j)

-- The first job of the order that has arrived and is not done. An entry without a place in both lists names no job.
unfoldable pub lent_pick : List ℕ → List ℕ → List Bool → ℕ → Option ℕ
lent_pick order arrivals done t = picked (pick order (λ j. at arrivals j (suc t)) done t)

-- what the answer is where the refusal is not good, and where it is
unfoldable pub unless {ℓ} : {A : Type ℓ} → Refusal → A → A → A
unless r refused found = cond (is_good r) found refused

unfoldable pub judged : View → Judged
judged v =
    let r = refusal v in
    let x = verdict v in
    unless r
    (record { judgement = Refused r; times = zeros })
    (record { judgement = Found x; times = times_beside v x })

-- The judgement, and each job's worst finish where it is fit, from one search. In every other answer the worst finishes are 0.
unfoldable pub assessed : View → Assessed
assessed v = record { judged = judged v; worsts = unless (refusal v) zeros (worsts_beside v (verdict v)) }

unfoldable pub finish_rows : View → List (List ℕ)
finish_rows v = unless (refusal v) (replicate 65 zeros) (rows v)

unfoldable pub worsts : View → List ℕ
worsts v = unless (refusal v) zeros (places v (worst v))

unfoldable pub margins : View → List ℤ
margins v = unless (refusal v) (replicate 64 (pos 0)) (map (λ j. cond (v.policy.part j) (margin v j) (pos 0)) (numbers 64))

-- "Executing one given run answers each job's finish, 0 for a dropped job, and the instant of the switch if there is one."
unfoldable pub ran : View → List ℕ → Ran
ran v c =
    let r = first_of (refusal v ∷ check_run v c ∷ []) in
    unless r
    (record { refusal = r; finishes = zeros; switch = Never })
    (record { refusal = r; finishes = places v (λ j. mark (outcome_in v c j)); switch = switch_in v c })

unfoldable pub tables_refusal : View → ℕ → ℕ → Refusal
tables_refusal v lo hi = first_of (refusal v ∷ check_room v lo hi ∷ [])

-- "Entries of the lent room beyond that stay untouched."
unfoldable pub lo_table_in : View → List ℕ → List ℕ → List ℕ
lo_table_in v lo hi = unless (tables_refusal v (length lo) (length hi)) lo (lo_table v ++ drop (span v) lo)

unfoldable pub hi_table_in : View → List ℕ → List ℕ → List ℕ
hi_table_in v lo hi = unless (tables_refusal v (length lo) (length hi)) hi (hi_table v ++ drop (span v) hi)

-- Who gets each slot of one given run: what a picture of it shows. "0 for idle, else a job number, for the span's length; entries of the lent
-- room beyond that stay untouched." One table is lent; 8 comes before 9.
unfoldable pub slots_refusal : View → List ℕ → ℕ → Refusal
slots_refusal v c n = first_of (refusal v ∷ check_room v n n ∷ check_run v c ∷ [])

unfoldable pub slots_in : View → List ℕ → List ℕ → List ℕ
slots_in v c table =
    unless (slots_refusal v c (length table)) table (table_of v (slot_at v.policy c) ++ drop (span v) table)
