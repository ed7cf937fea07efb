-- What an answer says of the set.
--   found_passes    == a judgement that finds a verdict says that the set passes the checks; and the verdict and the times beside it are the model's
--   unfit_misses    == of an unfit set some run misses what it requires;  misses_unfit: and then it is unfit
--   run-good        == a run of a set that passes is not refused: the finishes are those of the run
-- Assumes nothing.
use Rattle.std.specs.Prelude.{Err as Refused, Ok as Found, Result}
use Prim.Native.Nat.{ℕ}
use mathlib.Core.Path.{◌≡◌, refl, sym, ◌∙◌, ap}
use mathlib.Core.Bool.{Bool, true, false, not}
use mathlib.Core.List.{List, [], ◌∷◌}
use borrow.Author.Tests.{le-leb}
use Rattle.checks.proofs.Checked.{first_good}
use Rattle.model.specs.declared.Set.{Set}
use Rattle.model.specs.declared.Refusal.{Refusal}
use Rattle.model.specs.declared.Judged.{Judged}
use Rattle.model.specs.declared.Miss.{Miss}
use Rattle.model.specs.declared.Verdict.{Verdict}
use Rattle.model.specs.declared.Verdict.TheVariants.{Fit, Unfit}
use Rattle.model.specs.Sets.{View, view, members}
use Rattle.model.specs.Runs.{time, mark, outcome_in, switch_in, missed, meets, limit, in_range}
use Rattle.model.specs.Scenarios.{places, times_of, verdict, times_beside}
use Rattle.model.specs.Refusals.{good, is_good, first_of, checks, refusal, check_run}
use Rattle.model.specs.Answers.{unless, judged, ran}
use Rattle.theory.specs.Words.{Passes, RunOf}
use Rattle.theory.proofs.Views.{sound_of, run_of}
use Rattle.theory.proofs.Results.{unfit_is_true, fit_is_exact}
use Rattle.theory.proofs.Passes.{lowest_no}
use Rattle.laws.proofs.Bools.{split, clash, and_i, not_i_false}
use Rattle.laws.proofs.Lists.{any_i}
use Rattle.laws.proofs.Places.{members_i}

pub good_passes : (s : Set) → is_good (refusal (view s)) ≡ true → Passes s
unfolding refusal
good_passes s h = first_good (checks (view s)) h

-- the judgement -----------------------------------------------------------------------------------------------------------------------

is_found : Result Verdict Refusal → Bool
is_found (Refused r) = false
is_found (Found x) = true

found_of : Verdict → Result Verdict Refusal → Verdict
found_of y (Refused r) = y
found_of y (Found x) = x

judgement_of : Judged → Result Verdict Refusal
judgement_of r = r.judgement

-- of a set that passes the judgement is its verdict
pub judged-good : (v : View) → is_good (refusal v) ≡ true → judged v ≡ record { judgement = Found (verdict v); times = times_beside v (verdict v) }
unfolding judged unless
judged-good v t = rw t refl

judged_bad : (v : View) → is_good (refusal v) ≡ false → is_found (judged v).judgement ≡ false
unfolding judged unless is_found
judged_bad v n = rw n refl

pub found_passes : (s : Set) (r : Judged) (x : Verdict) → r ≡ judged (view s) → r.judgement ≡ Found x
    → Passes s × (verdict (view s) ≡ x) × (r.times ≡ times_beside (view s) x)
unfolding is_found found_of judgement_of
found_passes s r x e f =
    let v = view s in
    split (is_good (refusal v))
    (λ t.
    let h = e ∙ judged-good v t in
    let y : verdict v ≡ x = ap (found_of x) (sym (ap judgement_of h) ∙ f) in
    (good_passes s t, y, ap (λ (k : Judged). k.times) h ∙ ap (times_beside v) y))
    (λ n. clash (ap is_found f) (ap (λ (k : Judged). is_found k.judgement) e ∙ judged_bad v n))

-- an unfit set ------------------------------------------------------------------------------------------------------------------------

abbrev MissedRun : Set → Type 0
MissedRun s = (c : List ℕ) × RunOf s c × (meets (view s) c ≡ false)

pub unfit_misses : (s : Set) → Passes s → (m : Miss) → verdict (view s) ≡ Unfit m → MissedRun s
unfolding meets
unfit_misses s h m u =
    let v = view s in
    let c = times_of v m.scenario in
    let (run, needed, ends, late, x) = unfit_is_true s h m u in
    let j = members_i v.policy m.job (sound_of s h).ordered.room x.job in
    (c, run, not_i_false (any_i (missed v c) (members v.policy) m.job j x.misses))

pub misses_unfit : (s : Set) → Passes s → (c : List ℕ) → RunOf s c → meets (view s) c ≡ false → (m : Miss) × (verdict (view s) ≡ Unfit m)
misses_unfit s h c run f = by-verdict (verdict (view s)) refl
  where
    by-verdict : (x : Verdict) → verdict (view s) ≡ x → (m : Miss) × (verdict (view s) ≡ Unfit m)
    by-verdict Fit e = clash ((fit_is_exact s h).0 e c run) f
    by-verdict (Unfit m) e = (m, e)

-- the run -----------------------------------------------------------------------------------------------------------------------------

run_checked : (s : Set) → Passes s → (c : List ℕ) → RunOf s c → check_run (view s) c ≡ good
unfolding check_run in_range
run_checked s h c r =
    let v = view s in
    lowest_no 9 v (λ j. not (in_range v c j))
    (λ j a. let t = run_of s h c r j a in not_i_false (and_i (le-leb 1 (time c j) t.0) (le-leb (time c j) (limit v j) t.1)))

pub run-good : (s : Set) → Passes s → (c : List ℕ) → RunOf s c
    → ran (view s) c ≡ record { refusal = good; finishes = places (view s) (λ j. mark (outcome_in (view s) c j)); switch = switch_in (view s) c }
unfolding ran unless first_of is_good good
run-good s h c r = rw (h, run_checked s h c r) refl
