-- From what the writers put to the answers of the model.
--   found-good                       == a set with a verdict passes the checks;  fit_worsts: beside a fit one stand its worst finishes
--   refused-, fit_, unfit_judged     == the answer to a set that was read, by its judgement
--   refused-printed, judged-printed  == the answer to what was read of a text
-- Assumes nothing.
use Rattle.std.specs.Prelude.{Err, Ok, Err as Refused, Ok as Found}
use Rattle.checks.proofs.Checked.{passes, refused}
use Prim.Native.Nat.{ℕ}
use mathlib.Core.Path.{◌≡◌, refl, sym, ◌∙◌, ap}
use mathlib.Core.Bool.{true}
use native.Mathlib.Omega.{arith}
use Rattle.model.specs.declared.Refusal.{Refusal}
use Rattle.model.specs.declared.Reading.{Reading}
use Rattle.model.specs.declared.Miss.{Miss}
use Rattle.model.specs.declared.Verdict.{Verdict}
use Rattle.model.specs.declared.Verdict.TheVariants.{Fit, Unfit}
use Rattle.model.specs.declared.Assessed.{Assessed}
use Rattle.model.specs.Sets.{View, view}
use Rattle.model.specs.Refusals.{is_good, checked, refusal}
use Rattle.model.specs.Scenarios.{verdict, worsts_beside}
use Rattle.model.specs.Answers.{unless, judged, assessed, worsts}
use Rattle.model.specs.Printed.{refused_text, fit_text, unfit_text, judged_text, printed}
use Rattle.laws.proofs.Bools.{split}
use Rattle.pages.specs.declared.Page.{Page}
use Rattle.pages.specs.Pages.{page}

module _ (v : View) (a : Assessed) (e : a ≡ assessed v) where
  judgement_of_lem : a.judged.judgement ≡ (judged v).judgement
  unfolding assessed
  judgement_of_lem = ap (λ (i : Assessed). i.judged.judgement) e

  times_of_lem : a.judged.times ≡ (judged v).times
  unfolding assessed
  times_of_lem = ap (λ (i : Assessed). i.judged.times) e

  pub found-good : (x : Verdict) → a.judged.judgement ≡ Found x → is_good (refusal v) ≡ true
  unfolding judged unless
  found-good x h =
      split (is_good (refusal v)) (λ t. t)
      (λ f. let k = rw f at (sym judgement_of_lem ∙ h) in let z : ◌≡◌ {A = ℕ} 0 1 = cc in absurd (omega arith))

  pub fit_worsts : a.judged.judgement ≡ Found Fit → a.worsts ≡ worsts v
  unfolding assessed judged worsts worsts_beside unless
  fit_worsts h =
      let t = found-good Fit h in
      let k = rw t at (sym judgement_of_lem ∙ h) in
      let f : verdict v ≡ Fit = cc in
      ap (λ (i : Assessed). i.worsts) e ∙ rw (t, f) refl

  module _ (p : Page) where
    abbrev Answer : Type 0
    Answer = p ≡ page (judged_text v (judged v).judgement (judged v).times)

    pub refused-judged : (r : Refusal) → a.judged.judgement ≡ Refused r → p ≡ page (refused_text r) → Answer
    unfolding judged_text
    refused-judged r h f = f ∙ ap (λ x. page (judged_text v x (judged v).times)) (sym h ∙ judgement_of_lem)

    pub fit_judged : a.judged.judgement ≡ Found Fit → p ≡ page (fit_text v) → Answer
    unfolding judged_text
    fit_judged h f = f ∙ ap (λ x. page (judged_text v x (judged v).times)) (sym h ∙ judgement_of_lem)

    pub unfit_judged : (m : Miss) → a.judged.judgement ≡ Found (Unfit m) → p ≡ page (unfit_text v m a.judged.times) → Answer
    unfolding judged_text
    unfit_judged m h f =
        f
        ∙ ap (λ c. page (unfit_text v m c)) times_of_lem
        ∙ ap (λ x. page (judged_text v x (judged v).times)) (sym h ∙ judgement_of_lem)

module _ (q : Reading) (p : Page) where
  pub refused-printed : (r : Refusal) → Err r ≡ checked q.refusal → p ≡ page (refused_text r) → p ≡ page (printed q)
  unfolding printed unless
  refused-printed r h e = let z = refused q.refusal r h in e ∙ rw (z.0, z.1) refl

  pub judged-printed : Ok (tt {0}) ≡ checked q.refusal
      → p ≡ page (judged_text (view q.set) (judged (view q.set)).judgement (judged (view q.set)).times) → p ≡ page (printed q)
  unfolding printed unless
  judged-printed h e = e ∙ rw (passes q.refusal h) refl
