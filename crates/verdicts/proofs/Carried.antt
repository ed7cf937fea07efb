-- The worst finishes that the search carries from scenario to scenario. They begin as the finishes of scenario 0, so that its own run raises none.
--   Carried v x w   == w are the worst finishes over scenario 0 and the scenarios before x
--   carried_start, carried_pass, carried_skip, carried_end   == before the loop, a turn with a run and one without, and after it
-- Assumes nothing.
use Rattle.std.specs.Prelude.{Some, None}
use Prim.Native.Nat.{ℕ, zero, suc, ◌+◌, ◌≤◌, ◌<◌, max}
use mathlib.Core.Path.{◌≡◌, sym, ◌∙◌, ap}
use mathlib.Core.Bool.{true}
use mathlib.Core.List.{List}
use native.Mathlib.Omega.{arith}
use lib.ListN.{get_or}
use Rattle.model.specs.declared.Ran.{Ran}
use Rattle.model.specs.declared.Scenario.{Scenario}
use Rattle.model.specs.declared.Scenario.TheVariants.{Lo}
use Rattle.model.specs.Lists.{at}
use Rattle.model.specs.Sets.{View, view, critical}
use Rattle.model.specs.Scenarios.{places, times_of, row, worst}
use Rattle.model.specs.Refusals.{is_good, refusal}
use Rattle.laws.proofs.Bools.{split}
use Rattle.laws.proofs.Places.{at_suc}
use Rattle.model.specs.declared.Set.{Set}
use Rattle.verdicts.proofs.Entries.{place_is}
use Rattle.runs.specs.Engine.{run_of}
use Rattle.verdicts.specs.Tests.{numbered, scenario_at}
use Rattle.verdicts.specs.Rows.{worse_in, raised_in}
use Rattle.verdicts.proofs.Search.{plays_out, here, absent}
use Rattle.verdicts.proofs.Scenarios.{row-ran}
use Rattle.verdicts.proofs.RowLaws.{worst_to, places_same, raised-places, worsts-start, worsts-more, worsts_keep, worsts-end}

abbrev pub Carried : View → ℕ → List ℕ → Type 0
Carried v x w = w ≡ places v (worst_to v (max 1 x))

max-same : (a b : ℕ) → b ≡ a → max a b ≡ a
max-same a b e = omega arith

module _ (s : Set) (h : is_good (refusal (view s)) ≡ true) where
  pub carried_start : (w : List ℕ) → w ≡ row (view s) Lo → Carried (view s) 0 w
  carried_start w e = worsts-start s h w e

  -- raised by finishes that they are already
  again : (w f m : List ℕ) (g : ℕ → ℕ) → w ≡ places (view s) g → f ≡ places (view s) g → m ≡ raised_in (view s) w f
      → m ≡ places (view s) g
  unfolding worse_in
  again w f m g e y z =
      let v = view s in
      let place : (l : List ℕ) → l ≡ places v g → (i : ℕ) → i < s.count → at l (suc i) 0 ≡ g (suc i) =
      λ l d i q. at_suc l i 0 ∙ ap (λ u. get_or u i 0) d ∙ place_is s h g i q in
      z ∙ raised-places s h w f g e
      ∙ places_same s h (worse_in v w f) g
      (λ i q. split (critical v.policy (suc i))
      (λ b. rw b (max-same (at w (suc i) 0) (at f (suc i) 0) (place f y i q ∙ sym (place w e i q)) ∙ place w e i q))
      (λ b. rw b (place w e i q)))

  pub carried_pass : (x : ℕ) (y : Scenario) (w m : List ℕ) (r : Ran) → Carried (view s) x w → x ≤ s.count → Some y ≡ scenario_at (view s) x
      → r ≡ run_of (view s) (times_of (view s) y) → m ≡ raised_in (view s) w r.finishes → Carried (view s) (x + 1) m
  unfolding numbered
  carried_pass zero y w m r e q p g z =
      let ends : r.finishes ≡ row (view s) Lo = row-ran (view s) y r g ∙ ap (row (view s)) (here s 0 y p).1 in
      again w r.finishes m (worst_to (view s) 1) e (worsts-start s h r.finishes ends) z
  carried_pass (suc i) y w m r e q p g z =
      let v = view s in
      let here : max 1 (suc i) ≡ suc i = omega arith in
      let next : suc i + 1 ≡ max 1 (suc i + 1) = omega arith in
      worsts-more s h w m (suc i) r.finishes (e ∙ ap (λ n. places v (worst_to v n)) here) q y p (row-ran v y r g) z
      ∙ ap (λ n. places v (worst_to v n)) next

  pub carried_skip : (x : ℕ) (w : List ℕ) → Carried (view s) x w → None ≡ scenario_at (view s) x → Carried (view s) (x + 1) w
  carried_skip x w e p =
      let v = view s in
      let one = (plays_out s x (absent s x p)).0 in
      let here : max 1 x ≡ x = omega arith in
      let next : x + 1 ≡ max 1 (x + 1) = omega arith in
      e ∙ ap (λ n. places v (worst_to v n)) here ∙ worsts_keep s h x p ∙ ap (λ n. places v (worst_to v n)) next

  pub carried_end : (x : ℕ) (w : List ℕ) → Carried (view s) x w → x ≡ s.count + 1 → w ≡ places (view s) (worst (view s))
  carried_end x w e a = e ∙ worsts-end s h (max 1 x) (omega arith)
