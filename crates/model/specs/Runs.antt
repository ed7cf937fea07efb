-- Document 01, "One run". A run is a policy p and its running times c, a list with a place for each job.
--   time c j          == the running time of job j
--   mode_now p s      == rule 1: the mode at an instant, from the state s that the run has reached
--   pick l a d t      == rule 3: who gets slot t by the order l, where a gives the arrivals and d says who is done; 0 for idle
--   slot_now p s t    == so who gets slot t from the state s
--   account c j m s   == the state after a slot of job j in mode m
--   state_at p c t    == the state at instant t, before rule 1;  mode_at, slot_at, had_at, done_at: what it says
--   outcome p c n j   == what became of job j, looking at the instants up to n;  mark: the number that the paper writes for it
--   switch_of p c n   == the switch, looking at the instants before n
--   required, late, meets v c      == which deadlines the run requires, and whether it meets them
--   limit v j, in_range, is_run v c  == which times a run may have
use Rattle.std.specs.Prelude.{ℕ, zero, suc, ◌-◌, Bool, true, false, cond, not, ◌&&◌, ◌||◌, List, map, eqb, leb, ltb, replicate, set, None as Never, Some as At, Option}
use Rattle.model.specs.declared.Level.{Level}
use Rattle.model.specs.declared.Level.TheVariants.{Lo, Hi}
use Rattle.model.specs.declared.State.{State}
use Rattle.model.specs.Lists.{at, numbers, first, any, least}
use Rattle.model.specs.Sets.{Policy, View, is_hi, members, critical, span}

unfoldable pub time : List ℕ → ℕ → ℕ
time c j = at c j 0

-- "The mode starts as LO." A number that takes no part, and a job of time 0, is done from the start.
unfoldable pub start : Policy → List ℕ → State
start p c =
    record {
      mode = Lo;
      had = replicate 64 0;
      done = map (λ j. not (p.part j) || eqb (time c j) 0) (numbers 64);
    }

-- "If the mode is LO and a HI job has had exactly its LO budget and its running time is longer, the mode becomes HI and stays so."
-- Its running time is longer: it is not done.
unfoldable pub overruns : Policy → State → ℕ → Bool
overruns p s j = critical p j && (eqb (at s.had j 0) (p.lo j) && not (at s.done j true))

unfoldable pub mode_now : Policy → State → Level
mode_now p s = cond (is_hi s.mode || any (overruns p s) (members p)) Hi Lo

-- "Of the jobs that have arrived, are unfinished and not dropped, the highest in the order of the present mode gets the slot. If there is
-- none, the slot is idle." In HI mode every unfinished LO job is dropped: the HI order names none. An entry that names no job is done.
unfoldable pub ready : (ℕ → ℕ) → List Bool → ℕ → ℕ → Bool
ready a d t j = leb (a j) t && not (at d j true)

unfoldable pub pick : List ℕ → (ℕ → ℕ) → List Bool → ℕ → ℕ
pick l a d t = first (ready a d t) l

unfoldable pub slot_now : Policy → State → ℕ → ℕ
slot_now p s t = pick (p.order (mode_now p s)) p.arrival s.done t

-- one more for job j
unfoldable pub bump : List ℕ → ℕ → List ℕ
bump l j = set l (j - 1) (suc (at l j 0))

-- "A job finishes at the end of the slot that completes its running time."
unfoldable pub account : List ℕ → ℕ → Level → State → State
account c j m s =
    cond (eqb j 0)
    (record { mode = m; had = s.had; done = s.done })
    (record {
      mode = m;
      had = bump s.had j;
      done = set s.done (j - 1) (eqb (suc (at s.had j 0)) (time c j));
    })

unfoldable pub step : Policy → List ℕ → ℕ → State → State
step p c t s = account c (slot_now p s t) (mode_now p s) s

-- "Time goes in slots; slot t lies between instants t and t+1."
unfoldable pub state_at : Policy → List ℕ → ℕ → State
state_at p c zero = start p c
state_at p c (suc t) = step p c t (state_at p c t)

unfoldable pub mode_at : Policy → List ℕ → ℕ → Level
mode_at p c t = mode_now p (state_at p c t)

unfoldable pub slot_at : Policy → List ℕ → ℕ → ℕ
slot_at p c t = slot_now p (state_at p c t) t

unfoldable pub had_at : Policy → List ℕ → ℕ → ℕ → ℕ
had_at p c t j = at (state_at p c t).had j 0

unfoldable pub done_at : Policy → List ℕ → ℕ → ℕ → Bool
done_at p c t j = at (state_at p c t).done j true

-- The first instant, at or after its arrival, at which the job has had its time; past n where there is none up to n.
unfoldable pub finish_of : Policy → List ℕ → ℕ → ℕ → ℕ
finish_of p c n j = least (λ t. leb (p.arrival j) t && done_at p c t j) (suc n)

unfoldable pub switch_of : Policy → List ℕ → ℕ → Option ℕ
switch_of p c n = let t = least (λ t. is_hi (mode_at p c t)) n in cond (eqb t n) Never (At t)

-- "In HI mode every unfinished LO job, also one that arrives later, is dropped and never runs."
unfoldable pub dropped_by : Policy → List ℕ → ℕ → Option ℕ → Bool
dropped_by p c j Never = false
dropped_by p c j (At t) = not (critical p j) && (not (done_at p c t j) || leb t (p.arrival j))

pub data Outcome : Type 0 where
  finished : ℕ → Outcome
  dropped : Outcome

unfoldable pub outcome : Policy → List ℕ → ℕ → ℕ → Outcome
outcome p c n j = cond (dropped_by p c j (switch_of p c n)) dropped (finished (finish_of p c n j))

-- "each job's finish, 0 for a dropped job"
unfoldable pub mark : Outcome → ℕ
mark (finished t) = t
mark dropped = 0

-- "A run without a switch requires every deadline; a run with one requires those of the HI jobs only."
unfoldable pub required_after : Policy → ℕ → Option ℕ → Bool
required_after p j Never = true
required_after p j (At t) = critical p j

module _ (v : View) (c : List ℕ) where
  -- "A run covers the slots before the span."
  unfoldable pub outcome_in : ℕ → Outcome
  outcome_in j = outcome v.policy c (span v) j

  unfoldable pub switch_in : Option ℕ
  switch_in = switch_of v.policy c (span v)

  unfoldable pub required : ℕ → Bool
  required j = required_after v.policy j switch_in

  -- "It is late if that instant is after D."
  unfoldable pub late : ℕ → Bool
  late j = ltb (v.deadline j) (mark (outcome_in j))

  unfoldable pub missed : ℕ → Bool
  missed j = required j && late j

  unfoldable pub meets : Bool
  meets = not (any missed (members v.policy))

-- "A run gives each job a running time: 1 to its LO budget for a LO job, 1 to its HI budget for a HI job."
unfoldable pub limit : View → ℕ → ℕ
limit v j = cond (critical v.policy j) (v.hi j) (v.policy.lo j)

unfoldable pub in_range : View → List ℕ → ℕ → Bool
in_range v c j = leb 1 (time c j) && leb (time c j) (limit v j)

unfoldable pub is_run : View → List ℕ → Bool
is_run v c = not (any (λ j. not (in_range v c j)) (members v.policy))
