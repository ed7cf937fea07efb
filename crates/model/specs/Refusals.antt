-- Document 01, "Refusal numbers". "The first that applies, in this order, is given. Each answer is the number and one place value."
--   good              == no refusal
--   number_of c       == the number of check c;  refused n k: refused by check n with the place k, where there is one
--   told r, checked r == what a check refuses, as a refusal, which is good where it refuses nothing; and back
--   applies n k b     == refusal n with place k, where b says that it applies
--   placed n k        == refusal n with place k, a number from 1; k = 0 says that it does not apply
--   first_of l        == the first refusal of l that applies
--   lowest n v bad    == refusal n at the lowest job that is bad
--   fault ok l        == the first position of l, from 1, whose entry is not ok or repeats; 0 where there is none
--   checks v          == checks 2 to 7;  refusal v: the first that applies
use Rattle.std.specs.Prelude.{ℕ, suc, Bool, cond, not, ◌&&◌, ◌||◌, List, [], ◌∷◌, eqb, leb, ltb, length, Option, Some, None, Result, Ok, Err}
use Rattle.model.specs.declared.Level.TheVariants.{Lo, Hi}
use Rattle.model.specs.declared.Check.{Check}
use Rattle.model.specs.declared.Check.TheVariants.{Text, Count, Time, Budget, Span, LoOrder, HiOrder, Room, Run, Instant}
use Rattle.model.specs.declared.Refusal.{Refusal}
use Rattle.model.specs.Lists.{first, mem}
use Rattle.model.specs.Sets.{View, members, critical, span}
use Rattle.model.specs.Runs.{in_range}
use Rattle.model.specs.Scenarios.{hi_jobs}

unfoldable pub good : Refusal
good = record { number = 0; place = 0 }

unfoldable pub is_good : Refusal → Bool
is_good r = eqb r.number 0

-- Words of the code, by which its functions promise; no definition of the document stands on these four.
-- "1 TEXT, 2 COUNT, ..", by the names that the code has for the checks.
abbrev pub number_of : Check → ℕ
number_of Text = 1
number_of Count = 2
number_of Time = 3
number_of Budget = 4
number_of Span = 5
number_of LoOrder = 6
number_of HiOrder = 7
number_of Room = 8
number_of Run = 9
number_of Instant = 10

-- A check refuses or passes.
unfoldable pub refused : ℕ → Option ℕ → Result (Unit {0}) Refusal
refused n None = Ok tt
refused n (Some k) = Err (record { number = n; place = k })

unfoldable pub told : Result (Unit {0}) Refusal → Refusal
told (Ok u) = good
told (Err r) = r

unfoldable pub checked : Refusal → Result (Unit {0}) Refusal
checked r = cond (is_good r) (Ok tt) (Err r)

unfoldable pub applies : ℕ → ℕ → Bool → Refusal
applies n k b = cond b (record { number = n; place = k }) good

unfoldable pub placed : ℕ → ℕ → Refusal
placed n k = applies n k (not (eqb k 0))

unfoldable pub first_of : List Refusal → Refusal
first_of [] = good
first_of (r ∷ l) = cond (is_good r) (first_of l) r

unfoldable pub lowest : ℕ → View → (ℕ → Bool) → Refusal
lowest n v bad = placed n (first bad (members v.policy))

unfoldable pub fault_from : (ℕ → Bool) → List ℕ → ℕ → List ℕ → ℕ
fault_from ok seen k [] = 0
fault_from ok seen k (x ∷ l) = cond (ok x && not (mem x seen)) (fault_from ok (x ∷ seen) (suc k) l) k

unfoldable pub fault : (ℕ → Bool) → List ℕ → ℕ
fault ok l = fault_from ok [] 1 l

-- 2: "N is 0 or above 64, the LO order's count isn't N, or the HI order's isn't the number of HI jobs. N as given."
unfoldable pub check_count : View → Refusal
check_count v =
    applies 2 v.count
    (eqb v.count 0 || (ltb 64 v.count || (not (eqb (v.counts Lo) v.count) || not (eqb (v.counts Hi) (length (hi_jobs v))))))

-- 3: "Some D is not after its A. Lowest such job."
unfoldable pub time_wrong : View → ℕ → Bool
time_wrong v j = not (ltb (v.policy.arrival j) (v.deadline j))

unfoldable pub check_time : View → Refusal
check_time v = lowest 3 v (time_wrong v)

-- 4: "Some job breaks the budget rule. Lowest such job." The rule: "The LO budget is at least 1. A LO job has equal budgets. A HI job's HI
-- budget is strictly above its LO budget."
unfoldable pub budget_wrong : View → ℕ → Bool
budget_wrong v j =
    not (leb 1 (v.policy.lo j) && cond (critical v.policy j) (ltb (v.policy.lo j) (v.hi j)) (eqb (v.policy.lo j) (v.hi j)))

unfoldable pub check_budget : View → Refusal
check_budget v = lowest 4 v (budget_wrong v)

-- 5: "Span above 4,096. The span."
unfoldable pub check_span : View → Refusal
check_span v = let n = span v in applies 5 n (ltb 4096 n)

-- 6: "An entry is 0, above N, or repeats. First such position, from 1."
unfoldable pub check_lo_order : View → Refusal
check_lo_order v = placed 6 (fault v.policy.part (v.policy.order Lo))

-- 7: "An entry is no HI job, or repeats. First such position."
unfoldable pub is_hi_job : View → ℕ → Bool
is_hi_job v j = v.policy.part j && critical v.policy j

unfoldable pub check_hi_order : View → Refusal
check_hi_order v = placed 7 (fault (is_hi_job v) (v.policy.order Hi))

-- "Each check goes over all jobs before the next begins."
unfoldable pub checks : View → List Refusal
checks v = check_count v ∷ check_time v ∷ check_budget v ∷ check_span v ∷ check_lo_order v ∷ check_hi_order v ∷ []

unfoldable pub refusal : View → Refusal
refusal v = first_of (checks v)

-- 8: "A lent table is shorter than the span. The span."
unfoldable pub check_room : View → ℕ → ℕ → Refusal
check_room v lo hi = let n = span v in applies 8 n (ltb lo n || ltb hi n)

-- 9: "A running time asked for lies outside its range. Lowest such job."
unfoldable pub check_run : View → List ℕ → Refusal
check_run v c = lowest 9 v (λ j. not (in_range v c j))

-- 10: "A part is asked for past the table's end. The instant."
unfoldable pub check_instant : List ℕ → ℕ → Refusal
check_instant l t = applies 10 t (ltb (length l) t)
