-- The scenarios as runs. Scenario J runs as scenario 0, slot for slot, until J has had its LO budget, and switches there.
--   lo_stays               == in scenario 0 the mode stays LO
--   agree, lo_until, same_slot, hi-at-turn   == until its turn scenario J is scenario 0; then the mode is HI
-- Assumes nothing.
use Prim.Native.Nat.{ℕ, zero, suc, ◌+◌, ◌≤◌, ◌<◌}
use mathlib.Core.Path.{◌≡◌, refl, sym, ◌∙◌, ap}
use mathlib.Core.Bool.{true, false, cond, not, ◌&&◌}
use mathlib.Core.Logic.{inl, ⊎_elim}
use native.Mathlib.Omega.{arith}
use lib.Dec.{eqb, leb}
use borrow.Author.Tests.{ne_eqb}
use Rattle.model.specs.declared.Level.TheVariants.{Lo}
use Rattle.model.specs.declared.Scenario.TheVariants.{Hi as HiOf}
use Rattle.model.specs.Lists.{first}
use Rattle.model.specs.Sets.{View, is_hi, critical, span}
use Rattle.model.specs.Runs.{time, ready, state_at, mode_at, slot_at, had_at, done_at}
use Rattle.model.specs.Scenarios.{lo_times, turn, times_of}
use Rattle.laws.proofs.Bools.{split, clash}
use Rattle.laws.proofs.Lists.{first_cong}
use Rattle.laws.proofs.Places.{is_lo}
use Rattle.laws.proofs.Runs as Run
use Rattle.laws.proofs.Sound.{Sound}
use Rattle.laws.proofs.Ends.{limit-hi, by_span, lo_always}
use Rattle.laws.proofs.Turns.{lo-time, lo-within, turn-had, raised, hi-raised}

module _ (v : View) (s : Sound v) where
  pub lo_stays : (t : ℕ) → is_hi (mode_at v.policy (lo_times v) t) ≡ false
  lo_stays t = lo_always v.policy s.ordered (lo_times v) (λ j a k. omega (arith, lo-time v s j a)) t

  pub lo_ends : (t j : ℕ) → v.policy.part j ≡ true → span v ≤ t → had_at v.policy (lo_times v) t j ≡ v.policy.lo j
  lo_ends t j a q = by_span v s.ordered (limit-hi v s) (lo_times v) (lo-within v s) t j a (inl (lo_stays t)) q ∙ lo-time v s j a

  module _ (J : ℕ) (a : v.policy.part J ≡ true) (k : critical v.policy J ≡ true) where
    Agree : ℕ → Type 0
    Agree t = (j : ℕ) → v.policy.part j ≡ true → had_at v.policy (times_of v (HiOf J)) t j ≡ had_at v.policy (lo_times v) t j

    no_overrun : (t : ℕ) → t < turn v J → Agree t → (j : ℕ) → Run.Overrun v.policy (times_of v (HiOf J)) s.ordered.room t j → ⊥
    unfolding Agree
    no_overrun t q g j o =
        ⊎_elim (λ e. omega (arith, e, o.2, o.3)) (λ r. omega (arith, o.2, g j o.0, r.2 t q)) (raised v s J a k j o.0)

    slot_agrees : (t : ℕ) → t < turn v J → Agree t → is_hi (mode_at v.policy (times_of v (HiOf J)) t) ≡ false
        → slot_at v.policy (times_of v (HiOf J)) t ≡ slot_at v.policy (lo_times v) t
    unfolding Agree ready done_at
    slot_agrees t q g m =
        let p = v.policy in
        let d = times_of v (HiOf J) in
        let r = s.ordered.room in
        let md : mode_at p d t ≡ Lo = is_lo (mode_at p d t) m in
        let m₀ : mode_at p (lo_times v) t ≡ Lo = is_lo (mode_at p (lo_times v) t) (lo_stays t) in
        Run.slot_is p d r t
        ∙ ap (λ n. first (ready p.arrival (state_at p d t).done t) (p.order n)) md
        ∙ first_cong (ready p.arrival (state_at p d t).done t) (ready p.arrival (state_at p (lo_times v) t).done t) (p.order Lo)
        (λ j mj.
        let b : p.part j ≡ true = s.ordered.lo_only j mj in
        let same-done : eqb (had_at p d t j) (time d j) ≡ eqb (had_at p (lo_times v) t j) (time (lo_times v) j) =
        ⊎_elim
        (λ e. ap (λ n. eqb n (time d j)) (g j b) ∙ ap (eqb (had_at p (lo_times v) t j)) (e ∙ sym (lo-time v s j b)))
        (λ u.
        ne_eqb (had_at p d t j) (time d j) (omega (arith, g j b, u.1, u.2 t q, s.above j b u.0))
        ∙ sym (ne_eqb (had_at p (lo_times v) t j) (time (lo_times v) j) (omega (arith, lo-time v s j b, u.2 t q))))
        (raised v s J a k j b) in
        ap (λ x. leb (p.arrival j) t && not x) (Run.done_is p d r t j b ∙ same-done ∙ sym (Run.done_is p (lo_times v) r t j b)))
        ∙ ap (λ n. first (ready p.arrival (state_at p (lo_times v) t).done t) (p.order n)) (sym m₀)
        ∙ sym (Run.slot_is p (lo_times v) r t)

    together : (t : ℕ) → t ≤ turn v J → Agree t × (t < turn v J → is_hi (mode_at v.policy (times_of v (HiOf J)) t) ≡ false)
    unfolding Agree
    together zero q =
        let p = v.policy in
        let d = times_of v (HiOf J) in
        let r = s.ordered.room in
        let g : Agree 0 = λ j b. Run.had_zero p d j (r j b).0 ∙ sym (Run.had_zero p (lo_times v) j (r j b).0) in (
          g,
          λ h. split (is_hi (mode_at p d 0)) (λ m. let (j, o) = Run.hi-from-start p d r m in absurd (no_overrun 0 h g j o)) (λ m. m),
        )
    together (suc t) q =
        let p = v.policy in
        let d = times_of v (HiOf J) in
        let r = s.ordered.room in
        let (g₀, m₀) = together t (omega arith) in
        let m : is_hi (mode_at p d t) ≡ false = m₀ (omega arith) in
        let e : slot_at p d t ≡ slot_at p (lo_times v) t = slot_agrees t (omega arith) g₀ m in
        let g : Agree (suc t) =
        λ j b.
        Run.had_suc p d t j (r j b).0
        ∙ ap (λ n. n + cond (eqb (slot_at p d t) j) 1 0) (g₀ j b)
        ∙ ap (λ n. had_at p (lo_times v) t j + cond (eqb n j) 1 0) e
        ∙ sym (Run.had_suc p (lo_times v) t j (r j b).0) in (
          g,
          λ h.
              split (is_hi (mode_at p d (suc t)))
              (λ n. ⊎_elim (λ b. clash b m) (λ (j, o). absurd (no_overrun (suc t) h g j o)) (Run.hi-from p d r t n))
              (λ n. n),
        )

    pub agree : (t j : ℕ) → t ≤ turn v J → v.policy.part j ≡ true
        → had_at v.policy (times_of v (HiOf J)) t j ≡ had_at v.policy (lo_times v) t j
    unfolding Agree
    agree t j q b = (together t q).0 j b

    pub lo_until : (t : ℕ) → t < turn v J → is_hi (mode_at v.policy (times_of v (HiOf J)) t) ≡ false
    lo_until t q = (together t (omega arith)).1 q

    pub same_slot : (t : ℕ) → t < turn v J → slot_at v.policy (times_of v (HiOf J)) t ≡ slot_at v.policy (lo_times v) t
    same_slot t q = slot_agrees t q (together t (omega arith)).0 (lo_until t q)

    pub hi-at-turn : is_hi (mode_at v.policy (times_of v (HiOf J)) (turn v J)) ≡ true
    hi-at-turn =
        let p = v.policy in
        let d = times_of v (HiOf J) in
        let e : had_at p d (turn v J) J ≡ p.lo J = agree (turn v J) J (omega arith) a ∙ turn-had v s J a k in
        Run.hi-by p d s.ordered.room (turn v J) J
        (a, k, e, omega (arith, e, hi-raised v s J a k J a k (inl refl), s.above J a k))
