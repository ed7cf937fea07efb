-- The search for the first required miss, a scenario at a time. The verdict is what the search over the scenarios from x on finds.
--   rest v x       == what the search from scenario x on finds
--   rest_skip, rest_pass, rest_fail, rest_end   == one scenario: none of the set's, one without a miss, one with a miss, none left
--   missed-turn    == what the code tests of a job is the model's test
--   late-none, late_is   == no job is late where required; the job found is the lowest that is
--   at-.., here, absent, is_scenario, plays-..   == which numbers are scenarios
-- Assumes nothing.
use Rattle.std.specs.Prelude.{None as Never, Some as At, None, Some, Option}
use Prim.Native.Nat.{ℕ, zero, suc, ◌+◌, ◌-◌, ◌≤◌, ◌<◌}
use mathlib.Core.Path.{◌≡◌, refl, sym, ◌∙◌, ap, subst}
use mathlib.Core.Bool.{Bool, true, false, ◌&&◌}
use mathlib.Core.List.{List, [], ◌∷◌, map}
use mathlib.Core.Logic.{◌⊎◌, inl, inr, ⊎_elim}
use native.Mathlib.Omega.{arith}
use lib.Dec.{eqb}
use lib.ListN.{get_or}
use borrow.Author.Tests.{eq-eqb, ne_eqb, eqb-true, eqb-false}
use Rattle.model.specs.declared.Ran.{Ran}
use Rattle.model.specs.declared.Scenario.TheVariants.{Lo, Hi}
use Rattle.model.specs.declared.Miss.{Miss}
use Rattle.model.specs.declared.Scenario.{Scenario}
use Rattle.model.specs.declared.Verdict.{Verdict}
use Rattle.model.specs.declared.Verdict.TheVariants.{Fit, Unfit}
use Rattle.model.specs.Lists.{from, numbers, only}
use Rattle.model.specs.Sets.{View, view, members, critical}
use Rattle.model.specs.Runs.{mark, required_after, outcome_in, switch_in, required, late, missed}
use Rattle.model.specs.Scenarios.{hi_jobs, scenarios, times_of, finish_in, late_in, search, verdict}
use Rattle.model.specs.Refusals.{is_good, refusal}
use Rattle.laws.proofs.Bools.{tests, split, and_no_r, or_l, or_no_l, or_no_r}
use Rattle.laws.proofs.Lists.{first_zero}
use Rattle.laws.proofs.Ascending.{members_ascending, first_is}
use Rattle.laws.proofs.Places.{members_e, members_i, members_nonzero}
use Rattle.model.specs.declared.Set.{Set}
use Rattle.verdicts.proofs.Entries.{part_is, part_e, place_is, sound}
use Rattle.runs.specs.Engine.{run_of}
use Rattle.measures.specs.Measures.{missed_by}
use Rattle.verdicts.specs.Tests.{numbered, plays, scenario_at, IsScenario}

-- the HI jobs from number k on, of 64
hi_from : View → ℕ → ℕ → List ℕ
hi_from v k n = only (critical v.policy) (only v.policy.part (from k n))

pub rest : View → ℕ → Verdict
rest v zero = verdict v
rest v (suc k) = search v (map Hi (hi_from v (suc k) (64 - k)))

-- x is a scenario of the set: LO, or HI of a HI job
abbrev pub Plays : View → ℕ → Type 0
Plays v x = (x ≡ 0) ⊎ ((v.policy.part x ≡ true) × (critical v.policy x ≡ true))

pub numbered_suc : (x : ℕ) → numbered (suc x) ≡ Hi (suc x)
unfolding numbered
numbered_suc x = rw (ne_eqb (suc x) 0 (omega arith)) refl

hi_from_in : (v : View) (k n : ℕ) → v.policy.part k ≡ true → critical v.policy k ≡ true
    → hi_from v k (suc n) ≡ k ∷ hi_from v (suc k) n
unfolding hi_from from only
hi_from_in v k n a h = rw a (rw h refl)

hi_from_out : (v : View) (k n : ℕ) → (v.policy.part k && critical v.policy k) ≡ false → hi_from v k (suc n) ≡ hi_from v (suc k) n
unfolding hi_from from only
hi_from_out v k n o =
    split (v.policy.part k) (λ a. rw a (rw (rw a at o) refl)) (λ a. rw a refl)

module _ (v : View) where
  rest-here : (k : ℕ) → suc k ≤ 64 → rest v (suc k) ≡ search v (map Hi (hi_from v (suc k) (suc (63 - k))))
  unfolding rest
  rest-here k h = ap (λ n. search v (map Hi (hi_from v (suc k) n))) (omega arith)

  rest_then : (k : ℕ) → suc k ≤ 64 → search v (map Hi (hi_from v (suc (suc k)) (63 - k))) ≡ rest v (suc (suc k))
  unfolding rest
  rest_then k h = ap (λ n. search v (map Hi (hi_from v (suc (suc k)) n))) (omega arith)

  pub rest-start : verdict v ≡ rest v 0
  unfolding rest
  rest-start = refl

  pub rest_skip : (x : ℕ) → 1 ≤ x → x ≤ 64 → (v.policy.part x && critical v.policy x) ≡ false → rest v x ≡ rest v (suc x)
  rest_skip zero p q o = absurd (omega arith)
  rest_skip (suc k) p q o =
      rest-here k q ∙ ap (λ l. search v (map Hi l)) (hi_from_out v (suc k) (63 - k) o) ∙ rest_then k q

  pub rest_pass : (x : ℕ) → x ≤ 64 → Plays v x → late_in v (times_of v (numbered x)) ≡ 0 → rest v x ≡ rest v (suc x)
  unfolding rest verdict scenarios search hi_jobs members numbers hi_from numbered
  rest_pass zero q s l = rw (eq-eqb (late_in v (times_of v Lo)) 0 l) refl
  rest_pass (suc k) q s l =
      ⊎_elim (λ z. absurd (omega (arith, z)))
      (λ (a, h).
      let e : late_in v (times_of v (Hi (suc k))) ≡ 0 = subst (λ y. late_in v (times_of v y) ≡ 0) (numbered_suc k) l in
      rest-here k q ∙ ap (λ m. search v (map Hi m)) (hi_from_in v (suc k) (63 - k) a h)
      ∙ rw (eq-eqb (late_in v (times_of v (Hi (suc k)))) 0 e) (rest_then k q))
      s

  -- the miss found in scenario x
  abbrev pub miss : ℕ → Miss
  miss x =
      let j = late_in v (times_of v (numbered x)) in
      record { scenario = numbered x; job = j; finish = finish_in v (numbered x) j }

  hi_fail : (k : ℕ) (y : Scenario) → numbered (suc k) ≡ y → y ≡ Hi (suc k) → suc k ≤ 64 → v.policy.part (suc k) ≡ true
      → critical v.policy (suc k) ≡ true → (late_in v (times_of v y) ≡ 0 → ⊥)
      → rest v (suc k) ≡ Unfit (record { scenario = y; job = late_in v (times_of v y); finish = finish_in v y (late_in v (times_of v y)) })
  unfolding search
  hi_fail k y e z q a h l =
      rest-here k q ∙ ap (λ m. search v (map Hi m)) (hi_from_in v (suc k) (63 - k) a h)
      ∙ subst
      (λ w.
      (late_in v (times_of v w) ≡ 0 → ⊥) → search v (Hi (suc k) ∷ map Hi (hi_from v (suc (suc k)) (63 - k)))
      ≡ Unfit (record { scenario = w; job = late_in v (times_of v w); finish = finish_in v w (late_in v (times_of v w)) }))
      (sym z) (λ n. rw (ne_eqb (late_in v (times_of v (Hi (suc k)))) 0 n) refl) l

  pub rest_fail : (x : ℕ) → x ≤ 64 → Plays v x → (late_in v (times_of v (numbered x)) ≡ 0 → ⊥) → rest v x ≡ Unfit (miss x)
  unfolding rest verdict scenarios search numbered
  rest_fail zero q s l = rw (ne_eqb (late_in v (times_of v Lo)) 0 l) refl
  rest_fail (suc k) q s l =
      ⊎_elim (λ z. absurd (omega (arith, z))) (λ (a, h). hi_fail k (numbered (suc k)) refl (numbered_suc k) q a h l) s

  none_from : (k n : ℕ) → ((j : ℕ) → v.policy.part j ≡ true → j < k) → hi_from v k n ≡ []
  unfolding hi_from from only
  none_from k zero h = refl
  none_from k (suc n) h =
      split (v.policy.part k) (λ a. absurd (omega (arith, h k a))) (λ a. rw a (none_from (suc k) n (λ j b. omega (arith, h j b))))

  pub rest_end : (x : ℕ) → 1 ≤ x → ((j : ℕ) → v.policy.part j ≡ true → j < x) → rest v x ≡ Fit
  unfolding rest search
  rest_end zero p h = absurd (omega arith)
  rest_end (suc k) p h = ap (λ l. search v (map Hi l)) (none_from (suc k) (64 - k) h)

-- one run -------------------------------------------------------------------------------------------------------------------------------

missed_by_lem : (v : View) (c : List ℕ) (j : ℕ) (x : Option ℕ) → switch_in v c ≡ x
    → missed_by (critical v.policy j) (v.deadline j) (mark (outcome_in v c j)) x ≡ missed v c j
unfolding missed_by missed required required_after late
missed_by_lem v c j Never e = rw e refl
missed_by_lem v c j (At t) e = rw e refl

-- the jobs looked at so far have no required miss
abbrev pub Passed : View → List ℕ → ℕ → Type 0
Passed v c job = (i : ℕ) → i < job → missed v c (suc i) ≡ false

module _ (s : Set) (h : is_good (refusal (view s)) ≡ true) where
  pub finish_is : (c : List ℕ) (i : ℕ) → i < s.count → get_or (run_of (view s) c).finishes i 0 ≡ mark (outcome_in (view s) c (suc i))
  unfolding run_of
  finish_is c i q = place_is s h (λ j. mark (outcome_in (view s) c j)) i q

  -- what the code finds of job i + 1 of a run
  pub missed-turn : (r : Ran) (c : List ℕ) (i : ℕ) (b x : Bool) → i < s.count → r ≡ run_of (view s) c
      → (k : Bool) → k ≡ critical (view s).policy (suc i) → (d : ℕ) → d ≡ (view s).deadline (suc i)
      → b ≡ missed_by k d (get_or r.finishes i 0) r.switch → b ≡ x
      → missed (view s) c (suc i) ≡ x
  unfolding run_of
  missed-turn r c i b x q e k m d n f g =
      let v = view s in
      sym (missed_by_lem v c (suc i) (switch_in v c) refl)
      ∙ rw (sym m, sym n, sym (finish_is c i q))
      (ap (λ (y : Ran). missed_by k d (get_or y.finishes i 0) y.switch) (sym e) ∙ sym f ∙ g)

  pub passed_more : (c : List ℕ) (job : ℕ) → Passed (view s) c job → missed (view s) c (suc job) ≡ false → Passed (view s) c (job + 1)
  passed_more c job p m i q =
      split (eqb i job)
      (λ e. subst (λ n. missed (view s) c (suc n) ≡ false) (sym (eqb-true i job e)) m)
      (λ e. let ne : i ≡ job → ⊥ = eqb-false i job e in p i (omega (arith, ne)))

  of_suc : (c : List ℕ) (job j : ℕ) → Passed (view s) c job → 1 ≤ j → j ≤ job → missed (view s) c j ≡ false
  of_suc c job j p a b = subst (λ n. missed (view s) c n ≡ false) (omega arith) (p (j - 1) (omega arith))

  pub late-none : (c : List ℕ) → Passed (view s) c s.count → late_in (view s) c ≡ 0
  unfolding late_in
  late-none c p =
      first_zero (missed (view s) c) (members (view s).policy)
      (λ j m. let r = part_e s j (members_e (view s).policy j m) in of_suc c s.count j p r.0 r.1)

  pub late_is : (c : List ℕ) (job : ℕ) → job < s.count → Passed (view s) c job → missed (view s) c (suc job) ≡ true → late_in (view s) c ≡ suc job
  unfolding late_in
  late_is c job q p m =
      let v = view s in
      first_is (missed v c) (members v.policy) (members_ascending v.policy) (members_nonzero v.policy) (suc job)
      (members_i v.policy (suc job) (sound s h).ordered.room (part_is s job q)) m
      (λ i n l. let r = part_e s i (members_e v.policy i n) in of_suc c job i p r.0 (omega arith))

-- which numbers are scenarios -----------------------------------------------------------------------------------------------------------

module _ (s : Set) (x : ℕ) where
  -- what the code answers for a number: the scenario, or that it is none
  pub here : (y : Scenario) → Some y ≡ scenario_at (view s) x → (plays (view s) x ≡ true) × (y ≡ numbered x)
  unfolding scenario_at
  here y e =
      split (plays (view s) x)
      (λ p. (p, let q : Some y ≡ Some (numbered x) = rw p at e in cc))
      (λ p. let q : Some y ≡ None = rw p at e in absurd (cc))

  pub absent : None ≡ scenario_at (view s) x → plays (view s) x ≡ false
  unfolding scenario_at
  absent e = split (plays (view s) x) (λ p. let q : None ≡ Some (numbered x) = rw p at e in absurd (cc)) (λ p. p)

  pub plays_in : x ≤ s.count → plays (view s) x ≡ true → Plays (view s) x
  unfolding plays
  plays_in q e =
      split (eqb x 0) (λ z. inl (eqb-true x 0 z))
      (λ z.
      let one : 1 ≤ x = omega (tests, z) in
      inr (
        subst (λ n. (view s).policy.part n ≡ true) (omega arith) (part_is s (x - 1) (omega arith)),
        (rw z at e),
      ))

  pub plays_out : plays (view s) x ≡ false → (1 ≤ x) × (((view s).policy.part x && critical (view s).policy x) ≡ false)
  unfolding plays
  plays_out e = (
    let ne : x ≡ 0 → ⊥ = eqb-false x 0 (or_no_l (eqb x 0) (critical (view s).policy x) e) in omega (arith, ne),
    and_no_r ((view s).policy.part x) (or_no_r (eqb x 0) (critical (view s).policy x) e),
  )

  pub plays_zero : x ≡ 0 → plays (view s) x ≡ true
  unfolding plays
  plays_zero e = or_l (critical (view s).policy x) (eq-eqb x 0 e)

  pub is_scenario : x ≤ s.count → (y : Scenario) → Some y ≡ scenario_at (view s) x → IsScenario (view s) y
  unfolding numbered
  is_scenario q y e =
      let p = here y e in
      subst (IsScenario (view s)) (sym p.1)
      (⊎_elim (λ z. rw (eq-eqb x 0 z) tt)
      (λ (a, b).
      split (eqb x 0) (λ z. rw z tt) (λ z. rw z (a, b)))
      (plays_in q p.0))

  pub at-lo : x ≡ 0 → Some Lo ≡ scenario_at (view s) x
  unfolding scenario_at plays numbered
  at-lo e = rw (eq-eqb x 0 e) refl

  pub at-hi : (1 ≤ x) → true ≡ critical (view s).policy (suc (x - 1)) → Some (Hi x) ≡ scenario_at (view s) x
  unfolding scenario_at plays numbered
  at-hi p e = let z : suc (x - 1) ≡ x = omega arith in rw (ne_eqb x 0 (omega arith), rw z at (sym e)) refl

  pub at-none : (1 ≤ x) → false ≡ critical (view s).policy (suc (x - 1)) → None ≡ scenario_at (view s) x
  unfolding scenario_at plays numbered
  at-none p e = let z : suc (x - 1) ≡ x = omega arith in rw (ne_eqb x 0 (omega arith), rw z at (sym e)) refl
