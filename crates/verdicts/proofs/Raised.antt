-- The running times of scenario x, from the finishes of scenario 0: of two HI jobs, one is done at the other's turn exactly if it does not
-- end after it.
--   end-turn                 == what scenario 0 marks of a HI job is its turn
--   own_in                   == the job that a HI scenario is of, as the code holds its number
--   time_is                  == the time of a job in a HI scenario, by its level and the finishes;  raised_test: when it is raised
--   times-hi                 == the times of a HI scenario, from those of each job
-- Assumes nothing.
use Prim.Native.Nat.{ℕ, suc, ◌+◌, ◌-◌, ◌≤◌, ◌<◌, min}
use mathlib.Core.Path.{◌≡◌, refl, sym, ◌∙◌, ap, subst}
use mathlib.Core.Bool.{Bool, true, false, cond, not, ◌&&◌, ◌||◌}
use mathlib.Core.List.{List}
use native.Mathlib.Omega.{arith}
use native.Mathlib.Numerals.{add-one}
use lib.Dec.{eqb, leb, ltb}
use lib.ListN.{get_or}
use borrow.Author.Tests.{lt-ltb, le-ltb}
use Rattle.model.specs.declared.Scenario.{Scenario}
use Rattle.model.specs.declared.Scenario.TheVariants.{Lo, Hi}
use Rattle.model.specs.Lists.{at}
use Rattle.model.specs.Sets.{View, view, critical}
use Rattle.model.specs.Runs.{time, done_at, mark, outcome_in}
use Rattle.model.specs.Scenarios.{places, lo_times, turn, hi_time, times_of, finish_in, row}
use Rattle.model.specs.Refusals.{is_good, refusal}
use Rattle.laws.proofs.Bools.{tests, split}
use Rattle.laws.proofs.Places.{at_in}
use Rattle.laws.proofs.Sound.{Sound}
use Rattle.laws.proofs.Turns.{place-time, done-turn, hi-mark}
use Rattle.model.specs.declared.Set.{Set}
use Rattle.verdicts.proofs.Entries.{part_is, part_e, sound}
use Rattle.verdicts.specs.Tests.{IsScenario, time_in}
use Rattle.laws.proofs.Fill.{up_to, up_to-end, up_to-places}

not_leb : (m n : ℕ) → not (leb m n) ≡ ltb n m
not_leb m n =
    split (leb m n)
    (λ p. rw p (sym (le-ltb n m (omega (tests, p)))))
    (λ p. rw p (sym (lt-ltb n m (omega (tests, p)))))

end-turn : (v : View) → Sound v → (j : ℕ) → v.policy.part j ≡ true → critical v.policy j ≡ true
    → at (row v Lo) j 0 ≡ turn v j
unfolding row finish_in times_of time turn
end-turn v s j a k = place-time v (λ i. mark (outcome_in v (lo_times v) i)) j s.ordered a ∙ hi-mark v (lo_times v) j k

-- the finishes of scenario 0 say of a HI job at which instant its turn comes
module _ (s : Set) (g : is_good (refusal (view s)) ≡ true) (ends : List ℕ) (e : ends ≡ row (view s) Lo) where
  end_of : (j : ℕ) → (view s).policy.part j ≡ true → critical (view s).policy j ≡ true → 1 ≤ j → get_or ends (j - 1) 0 ≡ turn (view s) j
  end_of j a c one = sym (at_in ends j 0 one) ∙ ap (λ l. at l j 0) e ∙ end-turn (view s) (sound s g) j a c

  module _ (x : ℕ) (own : IsScenario (view s) (Hi x)) (i : ℕ) (q : i < s.count) (b : Bool) (level : b ≡ critical (view s).policy (suc i))
      (hi lo : ℕ) (his : hi ≡ (view s).hi (suc i)) (los : lo ≡ (view s).policy.lo (suc i)) where
    -- job i + 1 is raised by the code's test exactly if it is by the model's
    raised_test : (b && (eqb (i + 1) x || ltb (get_or ends (x - 1) 0) (get_or ends i 0)))
        ≡ (critical (view s).policy (suc i)
        && (eqb (suc i) x || not (done_at (view s).policy (lo_times (view s)) (turn (view s) x) (suc i))))
    raised_test =
        let v = view s in
        let j : ℕ = suc i in
        split b
        (λ c.
        let kj : critical v.policy j ≡ true = sym level ∙ c in
        let end-j : get_or ends i 0 ≡ turn v j = ap (λ m. get_or ends m 0) (omega arith) ∙ end_of j (part_is s i q) kj (omega arith) in
        let end-x : get_or ends (x - 1) 0 ≡ turn v x = end_of x own.0 own.1 (part_e s x own.0).0 in
        rw (c, kj, end-j, end-x, add-one, done-turn v (sound s g) x j own.0 own.1 (part_is s i q) kj, not_leb) refl)
        (λ c. let kj : critical v.policy j ≡ false = sym level ∙ c in rw (c, kj) refl)

    pub time_is : (r : Bool) → (b && (eqb (i + 1) x || ltb (get_or ends (x - 1) 0) (get_or ends i 0))) ≡ r
        → cond r hi lo ≡ time_in (view s) x (i + 1)
    unfolding time_in hi_time
    time_is r d = rw add-one (rw (sym d ∙ raised_test, his, los) refl)

-- a loop that has filled the times of each job has filled those of the scenario
module _ (s : Set) (times : List ℕ) (i : ℕ) (z : i ≡ min s.count 64) where
  pub times-hi : (x : ℕ) → times ≡ up_to i (time_in (view s) x) 0 → times ≡ times_of (view s) (Hi x)
  unfolding times_of time_in places view
  times-hi x e = e ∙ up_to-end i s.count (time_in (view s) x) 0 z ∙ up_to-places s.count (time_in (view s) x) 0

pub times_lo : (v : View) (y : Scenario) (times : List ℕ) → y ≡ Lo → times ≡ lo_times v → times ≡ times_of v y
unfolding times_of
times_lo v y times e f = f ∙ sym (rw e refl)

pub own_in : (s : Set) (y : Scenario) (o x : ℕ) → IsScenario (view s) y → y ≡ Hi o → x ≡ o → IsScenario (view s) (Hi x)
own_in s y o x i e f = subst (IsScenario (view s)) (e ∙ ap Hi (sym f)) i
