-- A run over the columns of a set, slot by slot.
--   any_overrun     == rule 1 over the columns
--   switched, noted, given, accounted   == the switch, the finishes and the progress after a slot
--   next p c t g    == a run's progress after slot t;  progress_at p n c t: at instant t, from start_of n c
--   run_of v c      == what a run that is not refused answers: the finishes, and the switch
--   Accountable, Steppable   == what the account of a slot and a step ask for;  Runnable: what the proofs ask for of a whole run
use Rattle.std.specs.Prelude.{ℕ, zero, suc, ◌-◌, ◌≤◌, ◌<◌, ◌≡◌, Bool, true, false, cond, not, ◌&&◌, ◌||◌, List, map, eqb, leb, set, replicate, None as Never, Some as At, Option, Some as Job, None as Idle}
use Rattle.model.specs.declared.Level.{Level}
use Rattle.model.specs.declared.Level.TheVariants.{Lo, Hi}
use Rattle.model.specs.declared.Ran.{Ran}
use Rattle.model.specs.declared.State.{State}
use Rattle.model.specs.Lists.{at, any, numbers}
use Rattle.model.specs.Sets.{Policy, View}
use Rattle.model.specs.Runs.{time, mode_now, account, slot_now, mark, outcome_in, switch_in}
use Rattle.model.specs.Scenarios.{places}
use Rattle.model.specs.Refusals.{good}
use Rattle.laws.proofs.Sound.{Sound}
use Rattle.laws.proofs.Ends.{Times}
use Rattle.columns.specs.declared.Columns.{Columns}
use Rattle.columns.specs.Columns.{view_of}
use Rattle.runs.specs.declared.engine.Progress.{Progress}

-- rule 1 over the columns
unfoldable pub any_overrun : ℕ → List Bool → List ℕ → List ℕ → List Bool → Bool
any_overrun n critical lo had done =
    any (λ j. at critical j false && (eqb (at had j 0) (at lo j 0) && not (at done j true))) (numbers n)

-- the number of a pick
unfoldable pub slot_of : Option ℕ → ℕ
slot_of (Job j) = j
slot_of Idle = 0

-- a pick that can be accounted at instant t: of a place whose slots had can still grow
pub record Accountable (g : Progress) (k : Option ℕ) (t : ℕ) : Type 0 where
  pub instant : t < 65535
  pub place : (j : ℕ) → k ≡ Job j → (1 ≤ j) × (j ≤ 64) × (at g.state.had j 0 < 65535)

-- the switch, where the mode at instant t is m
unfoldable pub switched : Option ℕ → Level → ℕ → Option ℕ
switched Never Lo t = Never
switched Never Hi t = At t
switched (At u) Lo t = At u
switched (At u) Hi t = At u

-- the finishes, where job j has had slot t and the state is then s
unfoldable pub noted : List ℕ → ℕ → ℕ → State → List ℕ
noted l t j s = cond (eqb j 0) l (cond (at s.done j true) (set l (j - 1) (suc t)) l)

-- where job j, or nobody, has had slot t
unfoldable pub given : List ℕ → ℕ → ℕ → Progress → Progress
given c t j g =
    let s = account c j g.state.mode g.state in
    record { state = s; slot = g.slot; switch = g.switch; finishes = noted g.finishes t j s }

-- after slot t of job j in mode m
unfoldable pub accounted : List ℕ → ℕ → ℕ → Level → Progress → Progress
accounted c t j m g =
    let s = account c j m g.state in
    record { state = s; slot = j; switch = switched g.switch m t; finishes = noted g.finishes t j s }

unfoldable pub next : Policy → List ℕ → ℕ → Progress → Progress
next p c t g = accounted c t (slot_now p g.state t) (mode_now p g.state) g

-- before slot 0 of a run with times c, of jobs 1 to n
unfoldable pub start_of : ℕ → List ℕ → Progress
start_of n c =
    record {
      state =
          record {
            mode = Lo;
            had = replicate 64 0;
            done = map (λ j. not (leb 1 j && leb j n) || eqb (time c j) 0) (numbers 64);
          };
      slot = 0;
      switch = Never;
      finishes = replicate 64 0;
    }

-- what can be stepped at instant t: slots had that are fewer than the slots gone
pub record Steppable (g : Progress) (t : ℕ) : Type 0 where
  pub instant : t < 65535
  pub slots : (j : ℕ) → at g.state.had j 0 ≤ t

unfoldable pub progress_at : Policy → ℕ → List ℕ → ℕ → Progress
progress_at p n c zero = start_of n c
progress_at p n c (suc t) = next p c t (progress_at p n c t)

unfoldable pub run_of : View → List ℕ → Ran
run_of v c = record { refusal = good; finishes = places v (λ j. mark (outcome_in v c j)); switch = switch_in v c }

-- what a run's finishes and switch need: a sound set, and times in range
pub record Runnable (k : Columns) (c : List ℕ) : Type 0 where
  pub sound : Sound (view_of k)
  pub range : Times (view_of k) c
