-- What the search finds of one number after another.
--   Turn s x w             == the verdict is left to the search from scenario x on, and w are the worst finishes over those before
--   turn_start, turn_pass, turn_skip   == before the first; past a scenario without a miss, or a number that is no scenario
--   turn_end, turn-miss    == the two ways out: no scenario is left, or a job misses its deadline, first of all
--   Left s x w             == what the search leaves its loops with;  answer-fit, answer_unfit: the answer then
-- Assumes nothing.
use Rattle.std.specs.Prelude.{Some, None, Ok}
use Prim.Native.Nat.{ℕ, suc, ◌+◌, ◌≤◌, ◌<◌}
use mathlib.Core.Path.{◌≡◌, refl, sym, ◌∙◌, ap, subst}
use mathlib.Core.Bool.{Bool, true}
use mathlib.Core.List.{List}
use native.Mathlib.Omega.{arith}
use native.Mathlib.Numerals.{add-one}
use lib.ListN.{get_or}
use Rattle.model.specs.declared.Assessed.{Assessed}
use Rattle.model.specs.declared.Miss.{Miss}
use Rattle.model.specs.declared.Ran.{Ran}
use Rattle.model.specs.declared.Scenario.{Scenario}
use Rattle.model.specs.declared.Set.{Set}
use Rattle.model.specs.declared.Scenario.TheVariants.{Lo}
use Rattle.model.specs.declared.Verdict.{Verdict}
use Rattle.model.specs.declared.Verdict.TheVariants.{Fit, Unfit}
use Rattle.model.specs.Sets.{View, view, critical}
use Rattle.model.specs.Scenarios.{zeros, places, row, times_of, finish_in, late_in, verdict, times_beside, worst, worsts_beside}
use Rattle.model.specs.Refusals.{is_good, refusal}
use Rattle.runs.specs.Engine.{run_of}
use Rattle.measures.specs.Measures.{missed_by}
use Rattle.verdicts.specs.Rows.{raised_in}
use Rattle.verdicts.specs.Tests.{scenario_at, IsScenario, IsVerdict, found}
use Rattle.verdicts.proofs.Entries.{part_e, few}
use Rattle.verdicts.proofs.Carried.{Carried, carried_start, carried_pass, carried_skip, carried_end}
use Rattle.verdicts.proofs.Search.{rest, rest-start, rest_skip, rest_pass, rest_fail, rest_end, Passed, finish_is, late-none, late_is, here, absent, is_scenario, plays_in, plays_out, missed-turn}

abbrev miss_in : Scenario → ℕ → ℕ → Miss
miss_in y j f = record { scenario = y; job = j; finish = f }

same_miss : {a b : Miss} → Unfit a ≡ Unfit b → a ≡ b
same_miss e = cc

abbrev pub Turn : Set → ℕ → List ℕ → Type 0
Turn s x w = (verdict (view s) ≡ rest (view s) x) × Carried (view s) x w

-- what the search leaves its loops with
abbrev pub Left : Set → Verdict → List ℕ → Type 0
Left s x w = IsVerdict (view s) x × (x ≡ Fit → w ≡ places (view s) (worst (view s)))

pub turn_start : (s : Set) (h : is_good (refusal (view s)) ≡ true) (ends : List ℕ) → ends ≡ row (view s) Lo → Turn s 0 ends
turn_start s h ends e = (rest-start (view s), carried_start s h ends e)

module _ (s : Set) (h : is_good (refusal (view s)) ≡ true) (x : ℕ) (w : List ℕ) (t : Turn s x w) where
  pub turn_skip : (m : List ℕ) → m ≡ w → None ≡ scenario_at (view s) x → x ≤ s.count → Turn s (x + 1) m
  turn_skip m z p q = (
    let r = plays_out s x (absent s x p) in
        t.0 ∙ rest_skip (view s) x r.0 (omega (arith, few s h)) r.1 ∙ ap (rest (view s)) (sym (add-one x)),
    z ∙ carried_skip s h x w t.1 p,
  )

  pub turn_end : x ≡ s.count + 1 → (y : Verdict) → y ≡ Fit → Left s y w
  turn_end q y z =
      let fit : verdict (view s) ≡ Fit =
      t.0 ∙ rest_end (view s) x (omega arith) (λ j a. omega (arith, part_e s j a)) in (
        record { is = z ∙ sym fit; scenario = λ m f. let c : Fit ≡ Unfit m = sym z ∙ f in absurd (cc) },
        λ _. carried_end s h x w t.1 q,
      )

  module _ (y : Scenario) (p : Some y ≡ scenario_at (view s) x) (q : x ≤ s.count) (r : Ran) (run : r ≡ run_of (view s) (times_of (view s) y))
      (job : ℕ) (passed : Passed (view s) (times_of (view s) y) job) where
    pub turn_pass : (m : List ℕ) → s.count ≤ job → m ≡ raised_in (view s) w r.finishes → Turn s (x + 1) m
    turn_pass m l z = (
      let n = here s x y p in
          t.0
          ∙ rest_pass (view s) x (omega (arith, few s h)) (plays_in s x q n.0)
          (subst (λ k. late_in (view s) (times_of (view s) k) ≡ 0) n.1 (late-none s h (times_of (view s) y) (λ i o. passed i (omega arith))))
          ∙ ap (rest (view s)) (sym (add-one x)),
      carried_pass s h x y w m r t.1 q p run z,
    )

    module _ (b : Bool) (l : job < s.count) (k : Bool) (a : k ≡ critical (view s).policy (suc job)) (d : ℕ) (o : d ≡ (view s).deadline (suc job))
        (m : b ≡ missed_by k d (get_or r.finishes job 0) r.switch) (f : b ≡ true) where
      first : verdict (view s) ≡ Unfit (miss_in y (job + 1) (get_or r.finishes job 0))
      unfolding finish_in
      first =
          let v = view s in
          let n = here s x y p in
          let late : late_in v (times_of v y) ≡ suc job = late_is s h (times_of v y) job l passed (missed-turn s h r (times_of v y) job b true l run k a d o m f) in
          let end : finish_in v y (suc job) ≡ get_or r.finishes job 0 =
          sym (finish_is s h (times_of v y) job l) ∙ ap (λ (z : Ran). get_or z.finishes job 0) (sym run) in
          t.0
          ∙ rest_fail v x (omega (arith, few s h)) (plays_in s x q n.0)
          (subst (λ j. late_in v (times_of v j) ≡ 0 → ⊥) n.1 (λ z. omega (arith, z, late)))
          ∙ ap (λ c. Unfit (miss_in c (late_in v (times_of v c)) (finish_in v c (late_in v (times_of v c))))) (sym n.1)
          ∙ ap (λ j. Unfit (miss_in y j (finish_in v y j))) late
          ∙ ap (λ c. Unfit (miss_in y (suc job) c)) end
          ∙ ap (λ j. Unfit (miss_in y j (get_or r.finishes job 0))) (sym (add-one job))

      pub turn-miss : (u : Verdict) (c : List ℕ) (i e : ℕ) → i ≡ job → e ≡ get_or r.finishes job 0
          → u ≡ Unfit (record { scenario = y; job = i + 1; finish = e }) → Left s u c
      turn-miss u c i e is at said =
          let z : u ≡ Unfit (miss_in y (job + 1) (get_or r.finishes job 0)) =
          said ∙ ap (λ k. Unfit (miss_in y (k + 1) e)) is ∙ ap (λ k. Unfit (miss_in y (job + 1) k)) at in (
            record {
              is = z ∙ sym first;
              scenario =
                  λ n o.
                  let g : miss_in y (job + 1) (get_or r.finishes job 0) ≡ n = same_miss (sym z ∙ o) in
                  subst (λ (i : Miss). IsScenario (view s) i.scenario) g (is_scenario s x q y p);
            },
            λ o. let g : Unfit (miss_in y (job + 1) (get_or r.finishes job 0)) ≡ Fit = sym z ∙ o in absurd (cc),
          )

-- what stands beside a verdict
module _ (v : View) (x : Verdict) where
  pub answer-fit : (w : List ℕ) → x ≡ verdict v → x ≡ Fit → w ≡ places v (worst v)
      → ◌≡◌ {A = Assessed} (record { judged = record { judgement = Ok x; times = zeros }; worsts = w }) (found v)
  unfolding found times_beside worsts_beside
  answer-fit w e f z = rw (sym e, f, z) refl

  pub answer_unfit : (m : Miss) (c : List ℕ) → x ≡ verdict v → x ≡ Unfit m → c ≡ times_of v m.scenario
      → ◌≡◌ {A = Assessed} (record { judged = record { judgement = Ok x; times = c }; worsts = zeros }) (found v)
  unfolding found times_beside worsts_beside
  answer_unfit m c e f z = rw (sym e, f, z) refl
