-- Dominance: whatever a run of a weaker set does, some scenario of the stronger one does no sooner. Over slots had; running times from 0 up; the
-- weaker set's HI jobs may have equal budgets.
--   dominates_lo == as long as the run is in LO mode, a job is finished once its image has had its LO budget in scenario 0
--   dominates_hi == a HI job unfinished at the switch has a scenario J such that it is finished once its image has had its HI budget there
-- Assumes nothing.
use Prim.Native.Nat.{ℕ, suc, ◌-◌, ◌≤◌, ◌<◌}
use mathlib.Core.Path.{◌≡◌, refl, sym, ◌∙◌, ap, subst}
use mathlib.Core.Bool.{Bool, true, false, ◌&&◌}
use mathlib.Core.List.{List}
use mathlib.Core.Logic.{inl, inr}
use native.Mathlib.Omega.{arith}
use lib.Dec.{eqb, leb, ltb}
use borrow.Author.Tests.{eqb-true, eqb-false, le-leb, leb-true}
use Rattle.model.specs.declared.Scenario.TheVariants.{Hi as HiOf}
use Rattle.model.specs.Lists.{any, least}
use Rattle.model.specs.Sets.{View, is_hi, members, critical, span}
use Rattle.model.specs.Runs.{time, mode_at, slot_at, had_at, limit}
use Rattle.model.specs.Scenarios.{lo_times, turn, times_of}
use Rattle.theory.specs.Weaker.{Weaker}
use Rattle.laws.proofs.Bools.{tests, split, clash, and_l, and_r, and_i}
use Rattle.laws.proofs.Lists.{any_i, any_e, any_no, least-before, least_passes, least_bound}
use Rattle.laws.proofs.Places.{members_i}
use Rattle.laws.proofs.Runs as Run
use Rattle.laws.proofs.Sound.{Ordered, Sound}
use Rattle.laws.proofs.Ends.{Within, limit-lo}
use Rattle.laws.proofs.Finishes.{finish-none}
use Rattle.theory.proofs.PhaseOne.{ahead}
use Rattle.theory.proofs.PhaseTwo.{unfinished, unfinished_e, end}
use Rattle.laws.proofs.Turns.{lo-time, turn-had, hi-raised, hi-least}
use Rattle.theory.proofs.Scenarios.{lo_stays, lo_ends, lo_until}

module _ (w v : View) (e : ℕ → ℕ) (k : Weaker e w v) (ow : Ordered w.policy) (sv : Sound v) (c : List ℕ) (wc : Within w c) where
  low : (i : ℕ) → w.policy.part i ≡ true → critical w.policy i ≡ false → time c i ≤ w.policy.lo i
  low i a n = omega (arith, wc i a, limit-lo w i n)

  critical-kept : (i : ℕ) → w.policy.part i ≡ true → critical w.policy i ≡ critical v.policy (e i)
  unfolding critical
  critical-kept i a = ap is_hi (k.level i a)

  pub dominates_lo : (t i : ℕ) → is_hi (mode_at w.policy c t) ≡ false → w.policy.part i ≡ true
      → v.policy.lo (e i) ≤ had_at v.policy (lo_times v) t (e i) → time c i ≤ had_at w.policy c t i
  dominates_lo t i m a h =
      let p = w.policy in
      split (ltb (had_at p c t i) (time c i))
      (λ l.
      let less : had_at p c t i < time c i = omega (tests, l) in
      absurd
      (omega (
        arith,
        h,
        k.lo i a,
        Run.lo_bound p c ow.room t i m a (low i a) less,
        ahead w v e k ow sv.ordered c (lo_times v) low
            (λ j b. omega (arith, k.lo j b, lo-time v sv (e j) (k.job j b)))
            t (λ u r. (Run.lo_earlier p c ow.room u t (omega arith) m, lo_stays v sv u)) i a less,
      )))
      (λ l. omega (tests, l))

  module _ (τ B : ℕ) (hi : is_hi (mode_at w.policy c τ) ≡ true) (lo : (u : ℕ) → u < τ → is_hi (mode_at w.policy c u) ≡ false)
      (ub : unfinished w.policy c τ B ≡ true) where
    -- some HI job unfinished at τ has had its LO budget by t in scenario 0
    reached : ℕ → ℕ → Bool
    reached t i = unfinished w.policy c τ i && leb (v.policy.lo (e i)) (had_at v.policy (lo_times v) t (e i))

    found : ℕ → Bool
    found t = any (reached t) (members w.policy)

    -- the first instant at which one has
    σ : ℕ
    σ = least found (suc (span v))

    σ_span : σ ≤ span v
    unfolding σ found reached
    σ_span =
        let p = w.policy in
        let a = (unfinished_e p c τ B ub).0 in
        least_bound found (suc (span v)) (span v) (omega arith)
        (any_i (reached (span v)) (members p) B (members_i p B ow.room a)
        (and_i ub
        (le-leb (v.policy.lo (e B)) (had_at v.policy (lo_times v) (span v) (e B))
        (omega (arith, lo_ends v sv (span v) (e B) (k.job B a) (omega arith))))))

    early : (t i : ℕ) → t < σ → unfinished w.policy c τ i ≡ true → had_at v.policy (lo_times v) t (e i) < v.policy.lo (e i)
    unfolding σ found reached
    early t i q u =
        let p = w.policy in
        let n : reached t i ≡ false =
        any_no (reached t) (members p) i (least-before found (suc (span v)) t q) (members_i p i ow.room (unfinished_e p c τ i u).0) in
        split (leb (v.policy.lo (e i)) (had_at v.policy (lo_times v) t (e i))) (λ r. clash (and_i u r) n) (λ r. omega (tests, r))

    reaches : (i : ℕ) × (unfinished w.policy c τ i ≡ true) × (v.policy.lo (e i) ≤ had_at v.policy (lo_times v) σ (e i))
    unfolding σ found reached
    reaches =
        let (i, m, r) = any_e (reached σ) (members w.policy) (least_passes found (suc (span v)) (omega (arith, σ_span))) in (
          i,
          and_l (unfinished w.policy c τ i) (leb (v.policy.lo (e i)) (had_at v.policy (lo_times v) σ (e i))) r,
          leb-true (v.policy.lo (e i)) (had_at v.policy (lo_times v) σ (e i))
              (and_r (unfinished w.policy c τ i) (leb (v.policy.lo (e i)) (had_at v.policy (lo_times v) σ (e i))) r),
        )

    -- the job of U that ends first in scenario 0, and its image
    i₀ : ℕ
    i₀ = reaches.0

    J : ℕ
    J = e i₀

    part_of : (i : ℕ) → unfinished w.policy c τ i ≡ true → v.policy.part (e i) ≡ true
    part_of i u = k.job i (unfinished_e w.policy c τ i u).0

    hi_of : (i : ℕ) → unfinished w.policy c τ i ≡ true → critical v.policy (e i) ≡ true
    hi_of i u =
        sym (critical-kept i (unfinished_e w.policy c τ i u).0) ∙ (unfinished_e w.policy c τ i u).1

    part_J : v.policy.part J ≡ true
    unfolding J i₀
    part_J = part_of i₀ reaches.1

    hi_J : critical v.policy J ≡ true
    unfolding J i₀
    hi_J = hi_of i₀ reaches.1

    one : (i : ℕ) → unfinished w.policy c τ i ≡ true → 1 ≤ e i
    one i u = (sv.ordered.room (e i) (part_of i u)).0

    had_σ : had_at v.policy (lo_times v) σ J ≡ time (lo_times v) J
    unfolding J i₀
    had_σ =
        omega
        (arith, reaches.2, lo-time v sv J part_J, Run.had_le v.policy (lo_times v) sv.ordered.room σ J part_J)

    turn_σ : turn v J ≡ σ
    unfolding turn J i₀
    turn_σ =
        let le : turn v J ≤ σ =
        finish-none v.policy (lo_times v) sv.ordered.room (span v) J part_J σ
        (omega (arith, lo-time v sv J part_J, sv.some J part_J)) σ_span had_σ in
        split (ltb (turn v J) σ)
        (λ l. absurd (omega (arith, early (turn v J) i₀ (omega (tests, l)) reaches.1, turn-had v sv J part_J hi_J)))
        (λ l. omega (tests, l, le))

    -- at σ no other job of U has had its LO budget: the slot before σ is J's
    others : (i : ℕ) → unfinished w.policy c τ i ≡ true → (e i ≡ J → ⊥) → had_at v.policy (lo_times v) σ (e i) < v.policy.lo (e i)
    unfolding J i₀
    others i u ne =
        let q = v.policy in
        let r = sv.ordered.room in
        let d = lo_times v in
        let one₀ = one i₀ reaches.1 in
        split (eqb σ 0)
        (λ z.
        absurd
        (omega
        (arith, sv.some J part_J, reaches.2, subst (λ n. had_at q d n J ≡ 0) (sym (eqb-true σ 0 z)) (Run.had_zero q d J one₀))))
        (λ z.
        let t : ℕ = σ - 1 in
        let nz : σ ≡ 0 → ⊥ = eqb-false σ 0 z in
        let s : suc t ≡ σ = omega (arith, nz) in
        split (eqb (slot_at q d t) J)
        (λ y.
        let other = Run.had_other q d r t (e i) (one i u) (λ x. ne (sym x ∙ eqb-true (slot_at q d t) J y)) in
        subst (λ n. had_at q d n (e i) < q.lo (e i)) s (omega (arith, other, early t i (omega (arith, nz)) u)))
        (λ y.
        let other = Run.had_other q d r t J one₀ (eqb-false (slot_at q d t) J y) in
        let same : had_at q d σ J ≡ had_at q d t J = subst (λ n. had_at q d n J ≡ had_at q d t J) s other in
        absurd (omega (arith, same, early t i₀ (omega (arith, nz)) reaches.1, reaches.2))))

    whole : (i : ℕ) → unfinished w.policy c τ i ≡ true → time (times_of v (HiOf J)) (e i) ≡ v.hi (e i)
    whole i u =
        hi-raised v sv J part_J hi_J (e i) (part_of i u) (hi_of i u)
        (split (eqb (e i) J) (λ z. inl (eqb-true (e i) J z))
        (λ z.
        inr
        (subst (λ n. had_at v.policy (lo_times v) n (e i) < v.policy.lo (e i)) (sym turn_σ) (others i u (eqb-false (e i) J z)))))

    τ-σ : τ ≤ σ
    unfolding J i₀
    τ-σ =
        let p = w.policy in
        let un = unfinished_e p c τ i₀ reaches.1 in
        split (leb τ σ) (λ l. omega (tests, l))
        (λ l.
        absurd
        (omega (
          arith,
          un.2,
          dominates_lo σ i₀ (lo σ (omega (tests, l))) un.0 reaches.2,
          Run.had-later p c ow.room σ τ i₀ (ow.room i₀ un.0).0 (omega (tests, l)),
        )))

    ahead_J : (i : ℕ) → unfinished w.policy c τ i ≡ true
        → had_at v.policy (times_of v (HiOf J)) τ (e i) ≤ had_at w.policy c τ i
    ahead_J i u =
        let un = unfinished_e w.policy c τ i u in
        ahead w v e k ow sv.ordered c (times_of v (HiOf J)) low
        (λ j b. omega (arith, k.lo j b, hi-least v sv J part_J hi_J (e j) (k.job j b)))
        τ
        (λ n r. (lo n r, lo_until v sv J part_J hi_J n (omega (arith, r, τ-σ, turn_σ))))
        i un.0 un.2

    within_J : (i : ℕ) → unfinished w.policy c τ i ≡ true → time c i ≤ v.hi (e i)
    unfolding limit
    within_J i u =
        let (a, h, x) = unfinished_e w.policy c τ i u in
        let l : limit w i ≡ w.hi i = rw h refl in
        omega (arith, l, wc i a, k.hi i a)

    -- B is finished in c once its image has had its HI budget in scenario J
    finished-by : (t : ℕ) → v.hi (e B) ≤ had_at v.policy (times_of v (HiOf J)) t (e B) → time c B ≤ had_at w.policy c t B
    finished-by t full =
        let q = v.policy in
        let d = times_of v (HiOf J) in
        let r = sv.ordered.room in
        let oneB = one B ub in
        let test : ℕ → Bool = λ u. leb (v.hi (e B)) (had_at q d u (e B)) in
        let g : ℕ = least test (suc t) in
        let gt : g ≤ t = least_bound test (suc t) t (omega arith) (le-leb (v.hi (e B)) (had_at q d t (e B)) full) in
        let gf : v.hi (e B) ≤ had_at q d g (e B) =
        leb-true (v.hi (e B)) (had_at q d g (e B)) (least_passes test (suc t) (omega arith)) in
        let above = sv.above (e B) (part_of B ub) (hi_of B ub) in
        split (eqb g 0)
        (λ z.
        absurd
        (omega
        (arith, above, gf, subst (λ n. had_at q d n (e B) ≡ 0) (sym (eqb-true g 0 z)) (Run.had_zero q d (e B) oneB))))
        (λ z.
        let nz : g ≡ 0 → ⊥ = eqb-false g 0 z in
        let f : ℕ = g - 1 in
        let s : suc f ≡ g = omega (arith, nz) in
        let less : had_at q d f (e B) < v.hi (e B) =
        split (leb (v.hi (e B)) (had_at q d f (e B))) (λ y. clash y (least-before test (suc t) f (omega (arith, nz))))
        (λ y. omega (tests, y)) in
        let full' : v.hi (e B) ≤ had_at q d (suc f) (e B) = subst (λ n. v.hi (e B) ≤ had_at q d n (e B)) (sym s) gf in
        let sl : slot_at q d f ≡ e B =
        split (eqb (slot_at q d f) (e B)) (λ y. eqb-true (slot_at q d f) (e B) y)
        (λ y. absurd (omega (arith, less, full', Run.had_other q d r f (e B) oneB (eqb-false (slot_at q d f) (e B) y)))) in
        let m : is_hi (mode_at q d f) ≡ true =
        split (is_hi (mode_at q d f)) (λ y. y)
        (λ y.
        absurd
        (omega (
          arith,
          above,
          full',
          Run.had-more q d r f (e B) oneB,
          Run.lo_bound q d r f (e B) y (part_of B ub) (λ x. clash (hi_of B ub) x) (omega (arith, less, whole B ub)),
        ))) in
        let late-enough : τ ≤ f =
        split (leb τ f) (λ y. omega (tests, y))
        (λ y. clash m (lo_until v sv J part_J hi_J f (omega (tests, y, τ-σ, turn_σ)))) in
        let done = end w v e k ow sv.ordered c d τ B hi within_J whole ahead_J ub f late-enough m sl full' in
        omega (
          arith,
          done,
          Run.had-later w.policy c ow.room (suc f) t B (ow.room B (unfinished_e w.policy c τ B ub).0).0 (omega (arith, s, gt)),
        ))

    pub dominates_hi : (x : ℕ) × (v.policy.part x ≡ true) × (critical v.policy x ≡ true)
        × (time (times_of v (HiOf x)) (e B) ≡ v.hi (e B))
        × ((t : ℕ) → v.hi (e B) ≤ had_at v.policy (times_of v (HiOf x)) t (e B) → time c B ≤ had_at w.policy c t B)
    dominates_hi = (J, part_J, hi_J, whole B ub, finished-by)
