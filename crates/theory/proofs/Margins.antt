-- Worst finishes and margins.
--   hi-switch        == scenario J switches exactly at J's turn
--   finish_is        == the number in a row is the finish of a job whose deadline the row requires
--   lo_in_row        == a LO job finishes in no row later than in row LO
--   at_row, hi_row_is, at-hi_row   == what a row holds for a job
--   worst_le, worst_of   == no finish is above the worst, and the worst is one
--   margin-late      == a margin is negative exactly if the job is late in some row
--   margin-range     == it lies between -4,095 and 65,534
--   fit_margins      == a set is fit exactly if no margin is negative
-- Assumes nothing.
use Rattle.std.specs.Prelude.{Some as At}
use Prim.Native.Nat.{ℕ, ◌+◌, ◌-◌, ◌≤◌, max}
use mathlib.Core.Path.{◌≡◌, refl, sym, ◌∙◌, ap, subst}
use mathlib.Core.Bool.{true, false, not, ◌&&◌, ◌||◌}
use mathlib.Core.List.{List, [], ◌∷◌, map}
use mathlib.Core.Logic.{◌⊎◌, inl, inr, ⊎_elim, ◌↔◌}
use native.Mathlib.Omega.{arith}
use lib.Dec.{leb, ltb}
use lib.IntN.{pos, ◌-ℤ◌}
use lib.ListN.{get_or-replicate}
use borrow.Author.Tests.{ltb-true, lt-ltb, le-ltb, eqb-true, not-false}
use Rattle.model.specs.declared.Scenario.{Scenario}
use Rattle.model.specs.declared.Scenario.TheVariants.{Lo, Hi}
use Rattle.model.specs.declared.Verdict.TheVariants.{Fit}
use Rattle.model.specs.Lists.{at, numbers, mem, largest}
use Rattle.model.specs.Sets.{View, critical, span}
use Rattle.model.specs.Runs.{time, had_at, done_at, finish_of, switch_of, dropped_by, outcome, mark, outcome_in, switch_in, required, required_after, late}
use Rattle.model.specs.Scenarios.{zeros, lo_times, turn, hi_time, times_of, finish_in, verdict, row, hi_row, rows, worst, margin}
use Rattle.theory.specs.Misses.{ScenarioOf}
use Rattle.theory.specs.Signs.{negative, IsSigned}
use Rattle.laws.proofs.Bools.{tests, split, clash, and_i, and_l, and_r, or_no_l}
use Rattle.laws.proofs.Lists.{mem_head, mem_tail}
use Rattle.laws.proofs.Sums.{largest_le, from-mem}
use Rattle.laws.proofs.Differences.{minus}
use Rattle.laws.proofs.Places.{at_in, at_out}
use Rattle.laws.proofs.Runs as Run
use Rattle.laws.proofs.Sound.{Sound}
use Rattle.laws.proofs.Ends.{limit-hi}
use Rattle.laws.proofs.Finishes.{finish-none}
use Rattle.laws.proofs.Turns.{place-time, lo-time, hi_time_lem}
use Rattle.theory.proofs.Scenarios.{lo_stays, lo_until, agree, hi-at-turn}
use Rattle.laws.proofs.Outcomes.{switches, ends_as, ends-span, ends_pos, ends_by, ends-done, meets_e, meets_i}
use Rattle.theory.proofs.Verdicts.{fit_meets}
use Rattle.theory.proofs.Fitness.{scenario-times, required-hi, required-lo}

-- the largest -------------------------------------------------------------------------------------------------------------------------

largest-map : (f : List ℕ → ℕ) (g : ℕ → List ℕ) (l : List ℕ) → largest f (map g l) ≡ largest (λ j. f (g j)) l
unfolding largest
largest-map f g [] = refl
largest-map f g (x ∷ l) = ap (max (f (g x))) (largest-map f g l)

largest_of : (f : ℕ → ℕ) (l : List ℕ) → (largest f l ≡ 0) ⊎ ((j : ℕ) × (mem j l ≡ true) × (f j ≡ largest f l))
unfolding largest
largest_of f [] = inl refl
largest_of f (x ∷ l) =
    split (leb (largest f l) (f x))
    (λ h. inr (x, mem_head x l, omega (tests, h)))
    (λ h.
    ⊎_elim (λ z. absurd (omega (tests, h, z))) (λ (j, m, e). inr (j, mem_tail j x l m, omega (tests, h, e)))
    (largest_of f l))

-- differences -------------------------------------------------------------------------------------------------------------------------

minus_negative : (a b : ℕ) → negative (pos a -ℤ pos b) ≡ ltb a b
unfolding negative
minus_negative a b = ap negative (minus a b) ∙ split (ltb a b) (λ h. rw h refl) (λ h. rw h refl)

minus_signed : (m n a b : ℕ) → a ≤ n + b → b ≤ m + a → IsSigned m n (pos a -ℤ pos b)
unfolding IsSigned
minus_signed m n a b p q =
    subst (IsSigned m n) (sym (minus a b)) (split (ltb a b) (λ h. rw h (omega (tests, h))) (λ h. rw h (omega (tests, h))))

-- rows --------------------------------------------------------------------------------------------------------------------------------

at-zeros : (j : ℕ) → 1 ≤ j → at zeros j 0 ≡ 0
unfolding zeros
at-zeros j h =
    split (leb j 64)
    (λ q. at_in zeros j 0 h ∙ get_or-replicate {A = ℕ} 64 (j - 1) 0 0 (omega (tests, q)))
    (λ q. at_out zeros j 0 (omega (tests, q)))

module _ (v : View) (s : Sound v) where
  pub hi-switch : (J : ℕ) → v.policy.part J ≡ true → critical v.policy J ≡ true → switch_in v (times_of v (Hi J)) ≡ At (turn v J)
  hi-switch J a k =
      let d = times_of v (Hi J) in
      ⊎_elim
      (λ (e, lo). clash (hi-at-turn v s J a k) (lo (turn v J)))
      (λ (τ, x).
      x.0
      ∙ ap At
      (split (ltb τ (turn v J))
      (λ q. clash x.2 (lo_until v s J a k τ (omega (tests, q))))
      (λ q.
      split (ltb (turn v J) τ) (λ r. clash (hi-at-turn v s J a k) (x.3 (turn v J) (omega (tests, r)))) (λ r. omega (tests, q, r)))))
      (switches v s.ordered (limit-hi v s) d (scenario-times v s (Hi J) (a, k)))

  required_in_hi : (J j : ℕ) → v.policy.part J ≡ true → critical v.policy J ≡ true → required v (times_of v (Hi J)) j ≡ true
      → critical v.policy j ≡ true
  unfolding required required_after
  required_in_hi J j a k q = rw (hi-switch J a k) at q

  pub finish_is : (x : Scenario) → ScenarioOf v x → (j : ℕ) → v.policy.part j ≡ true → required v (times_of v x) j ≡ true
      → finish_in v x j ≡ finish_of v.policy (times_of v x) (span v) j
  unfolding finish_in mark
  finish_is x q j a r = ap mark (ends_as v s.ordered (limit-hi v s) (times_of v x) (scenario-times v s x q) j a r)

  required_in_lo : (j : ℕ) → required v (times_of v Lo) j ≡ true
  unfolding times_of
  required_in_lo j = required-lo v s (lo_times v) (scenario-times v s Lo tt) (lo_stays v s) j

  -- the number in row LO is the finish in scenario 0
  lo-finish : (j : ℕ) → v.policy.part j ≡ true → finish_in v Lo j ≡ finish_of v.policy (lo_times v) (span v) j
  unfolding times_of
  lo-finish j a = finish_is Lo tt j a (required_in_lo j)

  lo-hi_time : (J j : ℕ) → v.policy.part J ≡ true → critical v.policy J ≡ true → v.policy.part j ≡ true
      → critical v.policy j ≡ false → time (times_of v (Hi J)) j ≡ time (lo_times v) j
  unfolding hi_time
  lo-hi_time J j a k b n = hi_time_lem v s J a k j b ∙ rw n (sym (lo-time v s j b))

  pub lo_in_row : (J j : ℕ) → v.policy.part J ≡ true → critical v.policy J ≡ true → v.policy.part j ≡ true
      → critical v.policy j ≡ false → finish_in v (Hi J) j ≤ finish_in v Lo j
  unfolding finish_in outcome_in outcome switch_in mark dropped_by times_of
  lo_in_row J j a k b n =
      let p = v.policy in
      let d = times_of v (Hi J) in
      let r = s.ordered.room in
      let σ : ℕ = turn v J in
      let e : switch_of p d (span v) ≡ At σ = hi-switch J a k in
      let f₀ : ℕ = finish_of p (lo_times v) (span v) j in
      let same = lo-hi_time J j a k b n in
      split (dropped_by p d j (At σ))
      (λ x.
      let z : mark (outcome p d (span v) j) ≡ 0 = rw (e, x) refl in
      omega (arith, z))
      (λ x.
      let z : mark (outcome p d (span v) j) ≡ finish_of p d (span v) j = rw (e, x) refl in
      let y : (not (done_at p d σ j) || leb σ (p.arrival j)) ≡ false = rw n at x in
      let done : done_at p d σ j ≡ true =
      not-false (done_at p d σ j) (or_no_l (not (done_at p d σ j)) (leb σ (p.arrival j)) y) in
      let had : had_at p d σ j ≡ time d j =
      eqb-true (had_at p d σ j) (time d j) (sym (Run.done_is p d r σ j b) ∙ done) in
      let one = (scenario-times v s Lo tt j b).0 in
      let one' = (scenario-times v s (Hi J) (a, k) j b).0 in
      let q = required_in_lo j in
      let lo_ends = ends-span v s.ordered (limit-hi v s) (lo_times v) (scenario-times v s Lo tt) j b q in
      let by-σ : f₀ ≤ σ =
      ends_by v s.ordered (limit-hi v s) (lo_times v) (scenario-times v s Lo tt) j b q σ
      (omega (arith, agree v s J a k σ j (omega arith) b, had, same)) in
      let had₀ = ends-done v s.ordered (limit-hi v s) (lo_times v) (scenario-times v s Lo tt) j b q in
      let by : finish_of p d (span v) j ≤ f₀ =
      finish-none p d r (span v) j b f₀ one' lo_ends (agree v s J a k f₀ j by-σ b ∙ had₀ ∙ sym same) in
      omega (arith, z, by, lo-finish j b))

  pub at_row : (x : Scenario) (j : ℕ) → v.policy.part j ≡ true → at (row v x) j 0 ≡ finish_in v x j
  unfolding row time
  at_row x j a = place-time v (finish_in v x) j s.ordered a

  -- a HI job's worst finish is the larger of row LO and the largest over the other rows
  worst-hi : (j : ℕ) → critical v.policy j ≡ true
      → worst v j ≡ max (at (row v Lo) j 0) (largest (λ i. at (hi_row v i) j 0) (numbers 64))
  unfolding worst rows largest
  worst-hi j k = rw k (ap (max (at (row v Lo) j 0)) (largest-map (λ r. at r j 0) (hi_row v) (numbers 64)))

  worst-lo : (j : ℕ) → critical v.policy j ≡ false → worst v j ≡ finish_in v Lo j
  unfolding worst
  worst-lo j k = rw k refl

  pub at-hi_row : (i j : ℕ) → v.policy.part j ≡ true
      → ((at (hi_row v i) j 0 ≡ 0)) ⊎ (ScenarioOf v (Hi i) × (at (hi_row v i) j 0 ≡ finish_in v (Hi i) j))
  unfolding hi_row
  at-hi_row i j a =
      let p = v.policy in
      split (p.part i && critical p i)
      (λ h. inr ((and_l (p.part i) (critical p i) h, and_r (p.part i) (critical p i) h), rw h (at_row (Hi i) j a)))
      (λ h. inl (rw h (at-zeros j (s.ordered.room j a).0)))

  pub hi_row_is : (i j : ℕ) → ScenarioOf v (Hi i) → v.policy.part j ≡ true → at (hi_row v i) j 0 ≡ finish_in v (Hi i) j
  unfolding hi_row
  hi_row_is i j q a = rw (and_i q.0 q.1) (at_row (Hi i) j a)

  pub worst_le : (x : Scenario) → ScenarioOf v x → (j : ℕ) → v.policy.part j ≡ true → finish_in v x j ≤ worst v j
  unfolding numbers
  worst_le Lo q j a =
      split (critical v.policy j) (λ k. omega (arith, worst-hi j k, at_row Lo j a)) (λ k. omega (arith, worst-lo j k))
  worst_le (Hi i) q j a =
      split (critical v.policy j)
      (λ k.
      let r = s.ordered.room i q.0 in
      omega (
        arith,
        worst-hi j k,
        hi_row_is i j q a,
        largest_le (λ n. at (hi_row v n) j 0) (numbers 64) i (from-mem 1 64 i (omega (arith, r)) (omega (arith, r))),
      ))
      (λ k. omega (arith, worst-lo j k, lo_in_row i j q.0 q.1 a k))

  -- the worst finish is the finish of a row that requires the job's deadline
  pub worst_of : (j : ℕ) → v.policy.part j ≡ true
      → (x : Scenario) × (ScenarioOf v x) × (required v (times_of v x) j ≡ true) × (finish_in v x j ≡ worst v j)
  worst_of j a =
      split (critical v.policy j)
      (λ k.
      let f : ℕ → ℕ = λ n. at (hi_row v n) j 0 in
      let top : (largest f (numbers 64) ≤ at (row v Lo) j 0) → finish_in v Lo j ≡ worst v j =
      λ h. omega (arith, h, worst-hi j k, at_row Lo j a) in
      split (leb (largest f (numbers 64)) (at (row v Lo) j 0))
      (λ h. (Lo, tt, required_in_lo j, top (omega (tests, h))))
      (λ h.
      ⊎_elim
      (λ z. absurd (omega (tests, h, z)))
      (λ (i, m, e).
      ⊎_elim
      (λ z. absurd (omega (tests, h, e, z)))
      (λ (q, z).
      (Hi i, q, required-hi v (times_of v (Hi i)) j k, omega (tests, h, e, z, worst-hi j k)))
      (at-hi_row i j a))
      (largest_of f (numbers 64))))
      (λ k. (Lo, tt, required_in_lo j, sym (worst-lo j k)))

  worst-span : (j : ℕ) → v.policy.part j ≡ true → (1 ≤ worst v j) × (worst v j ≤ span v)
  worst-span j a =
      let (x, q, r, e) = worst_of j a in
      let d = times_of v x in
      let t = scenario-times v s x q in
      omega
      (arith, e, finish_is x q j a r, ends-span v s.ordered (limit-hi v s) d t j a r, ends_pos v s.ordered (limit-hi v s) d t j a r)

  -- margins ---------------------------------------------------------------------------------------------------------------------------

  margin-negative : (j : ℕ) → negative (margin v j) ≡ ltb (v.deadline j) (worst v j)
  unfolding margin
  margin-negative j = minus_negative (v.deadline j) (worst v j)

  late_is : (x : Scenario) (j : ℕ) → late v (times_of v x) j ≡ ltb (v.deadline j) (finish_in v x j)
  unfolding late finish_in
  late_is x j = refl

  pub margin-late : (j : ℕ) → v.policy.part j ≡ true
      → (negative (margin v j) ≡ true) ↔ ((x : Scenario) × (ScenarioOf v x) × (late v (times_of v x) j ≡ true))
  margin-late j a = (
    λ h.
        let (x, q, r, e) = worst_of j a in
        (x, q, late_is x j ∙ ap (ltb (v.deadline j)) e ∙ sym (margin-negative j) ∙ h),
    λ (x, q, l).
        margin-negative j
        ∙ lt-ltb (v.deadline j) (worst v j)
        (omega (arith, ltb-true (v.deadline j) (finish_in v x j) (sym (late_is x j) ∙ l), worst_le x q j a)),
  )

  pub margin-range : (j : ℕ) → v.policy.part j ≡ true → v.deadline j ≤ 65535 → IsSigned 4095 65534 (margin v j)
  unfolding margin
  margin-range j a d =
      minus_signed 4095 65534 (v.deadline j) (worst v j) (omega (arith, d, worst-span j a))
      (omega (arith, worst-span j a, s.bounded, s.timely j a))

  pub fit_margins : (verdict v ≡ Fit) ↔ ((j : ℕ) → v.policy.part j ≡ true → negative (margin v j) ≡ false)
  fit_margins = (
    λ fit j a.
        let (x, q, r, e) = worst_of j a in
        let m = (fit_meets v s.ordered.room).0 fit x q in
        margin-negative j
        ∙ le-ltb (v.deadline j) (worst v j)
        (omega (
          arith,
          e,
          finish_is x q j a r,
          meets_e v s.ordered (limit-hi v s) (times_of v x) (scenario-times v s x q) m j a r,
        )),
    λ h.
        (fit_meets v s.ordered.room).1
        (λ x q.
        meets_i v s.ordered (limit-hi v s) (times_of v x) (scenario-times v s x q)
        (λ j a r.
        omega
        (tests, sym (margin-negative j) ∙ h j a, worst_le x q j a, finish_is x q j a r))),
  )
