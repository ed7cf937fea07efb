-- What theory says of the answers of these calls. A premise is an answer that the function's own promise admits (specs/Promises), and nothing is asked
-- of the set: that it passes the checks is read off the answer.
--   fit_call, fit_in_time    == what it means that this call judged a set fit
--   missed_call, unfit_call  == what it means that this call judged it unfit
--   margins_call             == what it means that a margin is negative
-- Assumes nothing.
use Rattle.std.specs.Prelude.{Ok as Found}
use Prim.Native.Nat.{ℕ, ◌≤◌, ◌<◌}
use mathlib.Core.Path.{◌≡◌, sym, ◌∙◌, ap, subst}
use mathlib.Core.Bool.{true, false}
use mathlib.Core.List.{List, []}
use mathlib.Core.Logic.{◌↔◌}
use lib.IntN.{ℤ, pos}
use lib.ListN.{get_or}
use Rattle.model.specs.declared.Set.{Set}
use Rattle.model.specs.declared.Miss.{Miss}
use Rattle.model.specs.declared.Ran.{Ran}
use Rattle.model.specs.declared.Judged.{Judged}
use Rattle.model.specs.declared.Verdict.TheVariants.{Fit, Unfit}
use Rattle.model.specs.Lists.{at}
use Rattle.model.specs.Sets.{job_at, view}
use Rattle.model.specs.Runs.{time, mark, outcome_in, required, meets}
use Rattle.model.specs.Scenarios.{times_of, times_beside}
use Rattle.model.specs.Refusals.{good, is_good}
use Rattle.model.specs.Answers.{ran}
use Rattle.theory.specs.Signs.{negative}
use Rattle.theory.specs.Words.{Passes, JobOf, HiJobOf, RunOf, NoOverrun, InTime}
use Rattle.theory.proofs.Embeddings.{part_e}
use Rattle.theory.proofs.Views.{sound_of}
use Rattle.theory.proofs.Results.{unfit_is_true, fit_is_exact, demand_three}
use Rattle.laws.proofs.Turns.{place-time}
use Rattle.ground.specs.Promises.{Judges, FinishRows, Margins, Executes}
use Rattle.ground.proofs.Answers.{judged-good, found_passes, unfit_misses, misses_unfit, run-good}
use Rattle.ground.proofs.Rows.{margins-late}

-- A set is judged fit by this call if and only if it passes the checks and every run of it meets what it requires.
pub fit_call : (s : Set) (r : Judged) → Judges s r
    → (r.judgement ≡ Found Fit) ↔ (Passes s × ((c : List ℕ) → RunOf s c → meets (view s) c ≡ true))
unfolding is_good good
fit_call s r p = (
  λ f. let (h, v, t) = found_passes s r Fit p f in (h, (fit_is_exact s h).0 v),
  λ (h, all).
      ap (λ (x : Judged). x.judgement) (p ∙ judged-good (view s) (ap is_good h)) ∙ ap Found ((fit_is_exact s h).1 all),
)

-- It is judged unfit by this call if and only if it passes the checks and some run of it does not meet what it requires.
pub missed_call : (s : Set) (r : Judged) → Judges s r
    → ((m : Miss) × (r.judgement ≡ Found (Unfit m))) ↔ (Passes s × ((c : List ℕ) × RunOf s c × (meets (view s) c ≡ false)))
unfolding is_good good
missed_call s r p = (
  λ (m, f). let (h, u, t) = found_passes s r (Unfit m) p f in (h, unfit_misses s h m u),
  λ (h, (c, run, f)).
      let e = ap (λ (x : Judged). x.judgement) (p ∙ judged-good (view s) (ap is_good h)) in
      let (m, u) = misses_unfit s h c run f in (m, e ∙ ap Found u),
)

-- Demand 3, of this call. Take a set that it judged fit, and let every job run for any whole time from one unit to its largest budget. Then every HI
-- job meets its deadline; and where no HI job outruns its LO budget, every job does.
pub fit_in_time : (s : Set) (r : Judged) → Judges s r → r.judgement ≡ Found Fit → (c : List ℕ) → RunOf s c
    → ((j : ℕ) → HiJobOf s j → InTime s c j) × (NoOverrun s c → (j : ℕ) → JobOf s j → InTime s c j)
fit_in_time s r p f c q = let (h, v, t) = found_passes s r Fit p f in demand_three s h v c q

-- Judged unfit by this call. Executing the times that it returned is not refused, and gives the job that it named the finish that it named, past the
-- job's deadline. It is a job of the set, and that run requires its deadline.
pub unfit_call : (s : Set) (r : Judged) (m : Miss) → Judges s r → r.judgement ≡ Found (Unfit m) → (x : Ran) → Executes s r.times x
    → (x.refusal ≡ good) × (at x.finishes m.job 0 ≡ m.finish) × ((job_at s m.job).deadline < m.finish)
    × JobOf s m.job × (required (view s) r.times m.job ≡ true)
unfolding times_beside time mark
unfit_call s r m p f x q =
    let v = view s in
    let (h, u, t) = found_passes s r (Unfit m) p f in
    let c = times_of v m.scenario in
    let (run, needed, ends, late, missed) = unfit_is_true s h m u in
    let e = q ∙ ap (ran v) t ∙ run-good s h c run in (
      ap (λ (y : Ran). y.refusal) e,
      ap (λ (y : Ran). at y.finishes m.job 0) e
          ∙ place-time v (λ j. mark (outcome_in v c j)) m.job (sound_of s h).ordered missed.job
          ∙ ap mark ends,
      late,
      part_e s m.job missed.job,
      subst (λ d. required v d m.job ≡ true) (sym t) needed,
    )

-- The margins returned are negative exactly where the job is late in the rows returned: the margin of job j is below 0 if and only if in one of the
-- rows, 0 to 64, the finish of job j is after its deadline. So for every set, refused or not, and for every number j.
pub margins_call : (s : Set) (m : List ℤ) (l : List (List ℕ)) → Margins s m → FinishRows s l → (j : ℕ)
    → (negative (at m j (pos 0)) ≡ true) ↔ ((x : ℕ) × (x ≤ 64) × ((job_at s j).deadline < at (get_or l x []) j 0))
margins_call s m l p q j = margins-late s m l p q j
