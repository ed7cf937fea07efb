-- Document 01, "The published test".
--   places v f        == f for each job that takes part, 0 at every other of the 64 places
--   scenarios v       == scenario LO, then HI of each HI job, rising
--   times_of v x      == the running times of scenario x
--   late_in v c       == the lowest-numbered late job whose deadline the run c requires; 0 where none is
--   search v l        == the first required miss over the scenarios l
--   verdict v         == the verdict;  times_beside: the running times beside it
--   rows v            == the finish times of all scenarios, row 0 LO and row J of HI job J
--   worst v j         == the worst finish;  margin v j: D minus the worst finish;  worsts_beside: the worst finishes beside a verdict
use Rattle.std.specs.Prelude.{ℕ, Bool, cond, not, ◌&&◌, ◌||◌, List, [], ◌∷◌, map, eqb, ℤ, pos, ◌-ℤ◌, replicate}
use Rattle.model.specs.declared.Scenario.{Scenario}
use Rattle.model.specs.declared.Scenario.TheVariants.{Lo, Hi}
use Rattle.model.specs.declared.Verdict.{Verdict}
use Rattle.model.specs.declared.Verdict.TheVariants.{Fit, Unfit}
use Rattle.model.specs.Lists.{at, numbers, only, first, largest}
use Rattle.model.specs.Sets.{View, members, critical, span}
use Rattle.model.specs.Runs.{done_at, finish_of, outcome_in, mark, missed}

-- "In every answer a row or place that belongs to no scenario or job concerned is 0."
unfoldable pub places : View → (ℕ → ℕ) → List ℕ
places v f = map (λ j. cond (v.policy.part j) (f j) 0) (numbers 64)

unfoldable pub zeros : List ℕ
zeros = replicate 64 0

unfoldable pub hi_jobs : View → List ℕ
hi_jobs v = only (critical v.policy) (members v.policy)

unfoldable pub scenarios : View → List Scenario
scenarios v = Lo ∷ map Hi (hi_jobs v)

-- "Scenario 0 (LO): every job runs for its LO budget."
unfoldable pub lo_times : View → List ℕ
lo_times v = places v v.policy.lo

-- The instant at which J has had its LO budget in scenario 0.
unfoldable pub turn : View → ℕ → ℕ
turn v J = finish_of v.policy (lo_times v) (span v) J

-- "Scenario J: .. jobs other than J finished by that instant, and all LO jobs, have their LO budget; the others their HI budget."
unfoldable pub hi_time : View → ℕ → (ℕ → Bool) → ℕ → ℕ
hi_time v J done j = cond (critical v.policy j && (eqb j J || not (done j))) (v.hi j) (v.policy.lo j)

unfoldable pub times_of : View → Scenario → List ℕ
times_of v Lo = lo_times v
times_of v (Hi J) = places v (hi_time v J (done_at v.policy (lo_times v) (turn v J)))

-- "The answer names the first failing scenario (0, then J rising), in it the lowest-numbered late job whose deadline is required, its
-- finish, and all running times."
unfoldable pub finish_in : View → Scenario → ℕ → ℕ
finish_in v x j = mark (outcome_in v (times_of v x) j)

unfoldable pub late_in : View → List ℕ → ℕ
late_in v c = first (missed v c) (members v.policy)

unfoldable pub search : View → List Scenario → Verdict
search v [] = Fit
search v (x ∷ l) =
    let j = late_in v (times_of v x) in
    cond (eqb j 0)
    (search v l)
    (Unfit (record { scenario = x; job = j; finish = finish_in v x j }))

-- "The set is fit if no required deadline is missed in any scenario. Otherwise it is unfit."
unfoldable pub verdict : View → Verdict
verdict v = search v (scenarios v)

-- "A fit answer has 0 in these places."
unfoldable pub times_beside : View → Verdict → List ℕ
times_beside v Fit = zeros
times_beside v (Unfit m) = times_of v m.scenario

-- "One row for LO and one for each HI job, fit or not .. Row 0 is LO and row J that of HI job J."
unfoldable pub row : View → Scenario → List ℕ
row v x = places v (finish_in v x)

unfoldable pub hi_row : View → ℕ → List ℕ
hi_row v J = cond (v.policy.part J && critical v.policy J) (row v (Hi J)) zeros

unfoldable pub rows : View → List (List ℕ)
rows v = row v Lo ∷ map (hi_row v) (numbers 64)

-- "A job's worst finish is the largest finish in its rows; for a LO job only row LO counts."
unfoldable pub worst : View → ℕ → ℕ
worst v j = cond (critical v.policy j) (largest (λ r. at r j 0) (rows v)) (finish_in v Lo j)

-- A fit answer has the worst finishes; an unfit one has 0 in their places.
unfoldable pub worsts_beside : View → Verdict → List ℕ
worsts_beside v Fit = places v (worst v)
worsts_beside v (Unfit m) = zeros

-- "The margin is D minus the worst finish, a signed number."
unfoldable pub margin : View → ℕ → ℤ
margin v j = pos (v.deadline j) -ℤ pos (worst v j)
