-- From a set that is refused, or that passes, to the model's answers.
--   refused-.., found-..   == the answer where the set is refused, and where it passes
-- Assumes nothing.
use Rattle.std.specs.Prelude.{Err as Refused}
use mathlib.Core.Path.{◌≡◌, refl, sym, ap}
use mathlib.Core.Bool.{true, false}
use lib.IntN.{pos}
use lib.ListN.{replicate}
use Rattle.model.specs.declared.Refusal.{Refusal}
use Rattle.model.specs.declared.Assessed.{Assessed}
use Rattle.model.specs.Sets.{View}
use Rattle.model.specs.Scenarios.{places, zeros, rows, worst}
use Rattle.model.specs.Refusals.{is_good, refusal}
use Rattle.model.specs.Answers.{unless, judged, assessed, finish_rows, worsts, margins}
use Rattle.verdicts.specs.Tests.{found}
use Rattle.verdicts.specs.Rows.{margins_in}

module _ (v : View) (bad : is_good (refusal v) ≡ false) where
  pub refused-assessed : (r : Refusal) → r ≡ refusal v →
      ◌≡◌ {A = Assessed} (record { judged = record { judgement = Refused r; times = replicate 64 0 }; worsts = replicate 64 0 }) (assessed v)
  unfolding assessed judged unless zeros
  refused-assessed r e = rw bad (ap (λ x. record { judged = record { judgement = Refused x; times = zeros }; worsts = zeros }) e)

  pub refused-rows : replicate 65 (replicate 64 0) ≡ finish_rows v
  unfolding finish_rows unless zeros
  refused-rows = sym (rw bad refl)

  pub refused-worsts : replicate 64 0 ≡ worsts v
  unfolding worsts unless zeros
  refused-worsts = sym (rw bad refl)

  pub refused-margins : replicate 64 (pos 0) ≡ margins v
  unfolding margins unless
  refused-margins = sym (rw bad refl)

module _ (v : View) (g : is_good (refusal v) ≡ true) where
  pub found-assessed : found v ≡ assessed v
  unfolding found assessed judged unless
  found-assessed = sym (rw g refl)

  pub found_rows : rows v ≡ finish_rows v
  unfolding finish_rows unless
  found_rows = sym (rw g refl)

  pub found-worsts : places v (worst v) ≡ worsts v
  unfolding worsts unless
  found-worsts = sym (rw g refl)

  pub found-margins : margins_in v ≡ margins v
  unfolding margins unless margins_in
  found-margins = sym (rw g refl)
