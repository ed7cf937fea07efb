-- Until the switch, job by job. A run c of a weaker set w and a run d of v, both in LO mode so far, where d gives each job at least what c
-- can ask of it in LO mode: an unfinished job has had no less in c than its image has had in d.
--   Ahead t    == so it is at instant t
--   ahead      == as long as both are in LO mode
--   lo-line    == in LO mode, who has had its LO budget in scenario 0 of v is finished in c
-- Assumes nothing.
use Prim.Native.Nat.{ℕ, zero, suc, ◌≤◌, ◌<◌, min}
use mathlib.Core.Path.{◌≡◌, refl, sym, ◌∙◌, subst}
use mathlib.Core.Bool.{true, false}
use mathlib.Core.List.{List}
use mathlib.Core.Logic.{inl}
use native.Mathlib.Omega.{arith}
use lib.Dec.{eqb}
use borrow.Author.Tests.{eqb-true, eqb-false}
use Rattle.model.specs.declared.Level.TheVariants.{Lo}
use Rattle.model.specs.Lists.{mem}
use Rattle.model.specs.Sets.{View, is_hi, critical}
use Rattle.model.specs.Runs.{time, ready, state_at, mode_at, slot_at, had_at}
use Rattle.theory.specs.Weaker.{Weaker}
use Rattle.laws.proofs.Bools.{split}
use Rattle.theory.proofs.Orders.{before, first-before, first_fails, embed_before, embed_one}
use Rattle.laws.proofs.Places.{is_lo}
use Rattle.laws.proofs.Runs as Run
use Rattle.laws.proofs.Sound.{Ordered}
use Rattle.laws.proofs.Ends.{no_idle}

module _ (w v : View) (e : ℕ → ℕ) (k : Weaker e w v) (ow : Ordered w.policy) (ov : Ordered v.policy) (c d : List ℕ)
    (low : (i : ℕ) → w.policy.part i ≡ true → critical w.policy i ≡ false → time c i ≤ w.policy.lo i)
    (enough : (i : ℕ) → w.policy.part i ≡ true → min (time c i) (w.policy.lo i) ≤ time d (e i)) where
  abbrev pub Ahead : ℕ → Type 0
  Ahead t =
      (i : ℕ) → w.policy.part i ≡ true → had_at w.policy c t i < time c i → had_at v.policy d t (e i) ≤ had_at w.policy c t i

  -- both runs are in LO mode at t
  abbrev pub BothLo : ℕ → Type 0
  BothLo t = (is_hi (mode_at w.policy c t) ≡ false) × (is_hi (mode_at v.policy d t) ≡ false)

  -- d cannot run the image of an unfinished job that c passes over and that has had as much in both
  stuck : (t : ℕ) → BothLo t → Ahead t → (i : ℕ) → w.policy.part i ≡ true → had_at w.policy c t i < time c i
      → slot_at v.policy d t ≡ e i → (slot_at w.policy c t ≡ i → ⊥) → ⊥
  stuck t (mc, md) ahead i a h sd sc =
      let p = w.policy in
      let q = v.policy in
      let j : ℕ = slot_at p c t in
      let onei : 1 ≤ e i = (ov.room (e i) (k.job i a)).0 in
      let arrived : p.arrival i ≤ t = omega (arith, k.arrival i a, (Run.slot_e q d ov.room t (e i) onei sd).1) in
      let lo-c : mode_at p c t ≡ Lo = is_lo (mode_at p c t) mc in
      let lo-d : mode_at q d t ≡ Lo = is_lo (mode_at q d t) md in
      let some : j ≡ 0 → ⊥ = no_idle p ow c t i a (inl mc) arrived h in
      let sj = Run.slot_e p c ow.room t j (omega (arith, some)) refl in
      let is_c = Run.slot_is p c ow.room t in
      let is-d = Run.slot_is q d ov.room t in
      let jb : before (p.order Lo) j i ≡ true =
      subst (λ m. before (p.order m) j i ≡ true) lo-c
      (subst (λ x. before (p.order (mode_at p c t)) x i ≡ true) (sym is_c)
      (first-before (ready p.arrival (state_at p c t).done t) (p.order (mode_at p c t)) i
      (subst (λ m. mem i (p.order m) ≡ true) (sym lo-c) (ow.lo_names i a))
      (Run.ready_i p c ow.room t i a arrived h))) in
      let eb : before (q.order Lo) (e j) (e i) ≡ true =
      embed_before e (p.order Lo) (q.order Lo) ov.lo_once k.lo_order j i (ow.lo_names i a) jb in
      let ne : e j ≡ e i → ⊥ =
      λ z. sc (embed_one e (p.order Lo) (q.order Lo) ov.lo_once k.lo_order j i (ow.lo_names j sj.0) (ow.lo_names i a) z) in
      let first_is = sym is-d ∙ sd in
      let unready : ready q.arrival (state_at q d t).done t (e j) ≡ false =
      first_fails (ready q.arrival (state_at q d t).done t) (q.order (mode_at q d t)) (e j) (λ z. omega (arith, z, first_is, onei))
      (subst (λ m. before (q.order (mode_at q d t)) (e j) m ≡ true) (sym first_is)
      (subst (λ m. before (q.order m) (e j) (e i) ≡ true) (sym lo-d) eb))
      (λ z. ne (z ∙ first_is)) in
      let full : time d (e j) ≤ had_at q d t (e j) =
      Run.ready_no q d ov.room t (e j) (k.job j sj.0) (omega (arith, k.arrival j sj.0, sj.1)) unready in
      let less : had_at p c t j < p.lo j = Run.lo_bound p c ow.room t j mc sj.0 (low j sj.0) sj.2 in
      omega (arith, full, less, ahead j sj.0 sj.2, enough j sj.0, sj.2)

  pub ahead : (t : ℕ) → ((u : ℕ) → u < t → BothLo u) → Ahead t
  ahead zero lo i a h = omega (arith, Run.had_zero v.policy d (e i) (ov.room (e i) (k.job i a)).0)
  ahead (suc t) lo i a h =
      let p = w.policy in
      let q = v.policy in
      let onei : 1 ≤ i = (ow.room i a).0 in
      let onee : 1 ≤ e i = (ov.room (e i) (k.job i a)).0 in
      let before-t : Ahead t = ahead t (λ u r. lo u (omega arith)) in
      let more = Run.had-more p c ow.room t i onei in
      let h₀ : had_at p c t i < time c i = omega (arith, more, h) in
      let r : had_at q d t (e i) ≤ had_at p c t i = before-t i a h₀ in
      split (eqb (slot_at q d t) (e i))
      (λ sd.
      let zd = eqb-true (slot_at q d t) (e i) sd in
      let md = Run.had_slot q d ov.room t (e i) onee zd in
      split (eqb (slot_at p c t) i)
      (λ sc. omega (arith, r, md, Run.had_slot p c ow.room t i onei (eqb-true (slot_at p c t) i sc)))
      (λ sc. absurd (stuck t (lo t (omega arith)) before-t i a h₀ zd (eqb-false (slot_at p c t) i sc))))
      (λ sd. omega (arith, r, more, Run.had_other q d ov.room t (e i) onee (eqb-false (slot_at q d t) (e i) sd)))
