-- By the span every job that is not dropped has had its time. From the last arrival on no slot is idle while such a job is unfinished,
-- so each slot adds one to the slots had in all; and those are at most the sum of the HI budgets.
--   Within v c     == every time is at most the job's largest budget
--   Times v c      == and at least 1: the times of a run
--   Kept t j       == job j is not dropped at instant t: the mode is LO, or it is a HI job
--   named, no_idle == a kept job stands in the present order; while one is ready, no slot is idle
--   lo_always      == where no HI job's time is above its LO budget, the mode stays LO
--   Bounded v      == no job's largest budget is above its HI budget; so it is in a sound set (limit-hi)
--   by_span        == from the span on, a kept job has had its time
-- Assumes nothing.
use Prim.Native.Nat.{ℕ, zero, suc, ◌+◌, ◌≤◌, ◌<◌}
use mathlib.Core.Path.{◌≡◌, refl, sym, ◌∙◌, subst}
use mathlib.Core.Bool.{true, false}
use mathlib.Core.List.{List}
use mathlib.Core.Logic.{◌⊎◌, inl, inr, ⊎_elim}
use native.Mathlib.Omega.{arith}
use lib.Dec.{ltb}
use Rattle.model.specs.declared.Level.{Level}
use Rattle.model.specs.declared.Level.TheVariants.{Lo, Hi}
use Rattle.model.specs.Lists.{mem, total, largest}
use Rattle.model.specs.Sets.{Policy, View, is_hi, members, critical, span}
use Rattle.model.specs.Runs.{time, ready, state_at, mode_at, slot_at, had_at, limit}
use Rattle.laws.proofs.Bools.{tests, split, clash}
use Rattle.laws.proofs.Sums.{total_lt, largest_le}
use Rattle.laws.proofs.Lists.{first_not_zero}
use Rattle.laws.proofs.Places.{members_i, members_e, is_lo, is_hi_lem}
use Rattle.laws.proofs.Runs as Run
use Rattle.laws.proofs.Sound.{Ordered, Sound}

abbrev pub Within : View → List ℕ → Type 0
Within v c = (j : ℕ) → v.policy.part j ≡ true → time c j ≤ limit v j

-- the times of a run, from 1 up
abbrev pub Times : View → List ℕ → Type 0
Times v c = (j : ℕ) → v.policy.part j ≡ true → (1 ≤ time c j) × (time c j ≤ limit v j)

pub limit-hi : (v : View) → Sound v → (j : ℕ) → v.policy.part j ≡ true → limit v j ≤ v.hi j
unfolding limit
limit-hi v s j a =
    split (critical v.policy j) (λ k. rw k (omega arith)) (λ k. rw k (omega (arith, s.equal j a k)))

pub limit-lo : (v : View) (j : ℕ) → critical v.policy j ≡ false → limit v j ≡ v.policy.lo j
unfolding limit
limit-lo v j k = rw k refl

-- where no HI job's time is above its LO budget, the mode stays LO
pub lo_always : (p : Policy) (o : Ordered p) (c : List ℕ)
    → ((j : ℕ) → p.part j ≡ true → critical p j ≡ true → time c j ≤ p.lo j) → (t : ℕ) → is_hi (mode_at p c t) ≡ false
lo_always p o c l zero =
    split (is_hi (mode_at p c 0))
    (λ h. let (j, r) = Run.hi-from-start p c o.room h in absurd (omega (arith, r.2, r.3, l j r.0 r.1)))
    (λ h. h)
lo_always p o c l (suc t) =
    split (is_hi (mode_at p c (suc t)))
    (λ h.
    ⊎_elim (λ b. clash b (lo_always p o c l t))
    (λ (j, r). absurd (omega (arith, r.2, r.3, l j r.0 r.1)))
    (Run.hi-from p c o.room t h))
    (λ h. h)

module _ (p : Policy) (o : Ordered p) where
  pub no_zero : (m : Level) → mem 0 (p.order m) ≡ false
  no_zero Lo = split (mem 0 (p.order Lo)) (λ m. absurd (omega (arith, o.room 0 (o.lo_only 0 m)))) (λ m. m)
  no_zero Hi = split (mem 0 (p.order Hi)) (λ m. absurd (omega (arith, o.room 0 (o.hi_only 0 m).0))) (λ m. m)

  module _ (c : List ℕ) where
    abbrev pub Kept : ℕ → ℕ → Type 0
    Kept t j = (is_hi (mode_at p c t) ≡ false) ⊎ (critical p j ≡ true)

    pub kept_earlier : (t u j : ℕ) → t ≤ u → Kept u j → Kept t j
    kept_earlier t u j r k = ⊎_elim (λ m. inl (Run.lo_earlier p c o.room t u r m)) (λ h. inr h) k

    pub named : (t j : ℕ) → p.part j ≡ true → Kept t j → mem j (p.order (mode_at p c t)) ≡ true
    named t j a k =
        split (is_hi (mode_at p c t))
        (λ h.
        subst (λ m. mem j (p.order m) ≡ true) (sym (is_hi_lem (mode_at p c t) h))
        (⊎_elim (λ l. clash h l) (λ q. o.hi_names j a q) k))
        (λ h. subst (λ m. mem j (p.order m) ≡ true) (sym (is_lo (mode_at p c t) h)) (o.lo_names j a))

    pub no_idle : (t j : ℕ) → p.part j ≡ true → Kept t j → p.arrival j ≤ t → had_at p c t j < time c j → slot_at p c t ≡ 0 → ⊥
    no_idle t j a k r h e =
        first_not_zero (ready p.arrival (state_at p c t).done t) (p.order (mode_at p c t)) j (no_zero (mode_at p c t)) (named t j a k)
        (Run.ready_i p c o.room t j a r h)
        (sym (Run.slot_is p c o.room t) ∙ e)

    busy : (t : ℕ) → (slot_at p c t ≡ 0 → ⊥) → total (had_at p c t) (members p) < total (had_at p c (suc t)) (members p)
    busy t ne =
        let k : ℕ = slot_at p c t in
        let one : 1 ≤ k = omega (arith, ne) in
        let a : p.part k ≡ true = (Run.slot_e p c o.room t k one refl).0 in
        total_lt (had_at p c t) (had_at p c (suc t)) (members p) k (members_i p k o.room a)
        (omega (arith, Run.had_slot p c o.room t k one refl))
        (λ j m. (Run.had-more p c o.room t j (o.room j (members_e p j m)).0).0)

-- what is needed of the budgets: no job's largest budget is above its HI budget
abbrev pub Bounded : View → Type 0
Bounded v = (j : ℕ) → v.policy.part j ≡ true → limit v j ≤ v.hi j

module _ (v : View) (o : Ordered v.policy) (b : Bounded v) (c : List ℕ) (w : Within v c) where
  from_last : (u j : ℕ) → v.policy.part j ≡ true → Kept v.policy o c u j → had_at v.policy c u j < time c j
      → (n : ℕ) → largest v.policy.arrival (members v.policy) + n ≤ u
      → n ≤ total (had_at v.policy c (largest v.policy.arrival (members v.policy) + n)) (members v.policy)
  from_last u j a k h zero q = omega arith
  from_last u j a k h (suc n) q =
      let p = v.policy in
      let last : ℕ = largest p.arrival (members p) in
      let t : ℕ = last + n in
      let e : suc t ≡ last + suc n = omega arith in
      let idle : slot_at p c t ≡ 0 → ⊥ =
      no_idle p o c t j a (kept_earlier p o c t u j (omega arith) k)
      (omega (arith, largest_le p.arrival (members p) j (members_i p j o.room a)))
      (omega (arith, Run.had-later p c o.room t u j (o.room j a).0 (omega arith))) in
      subst (λ i. suc n ≤ total (had_at p c i) (members p)) e
      (omega (arith, from_last u j a k h n (omega arith), busy p o c t idle))

  pub by_span : (u j : ℕ) → v.policy.part j ≡ true → Kept v.policy o c u j → span v ≤ u → had_at v.policy c u j ≡ time c j
  unfolding span
  by_span u j a k q =
      let p = v.policy in
      let r = o.room in
      let last : ℕ = largest p.arrival (members p) in
      let n : ℕ = total v.hi (members p) in
      split (ltb (had_at p c u j) (time c j))
      (λ h.
      let hu : had_at p c u j < time c j = omega (tests, h) in
      let hs : had_at p c (last + n) j ≤ had_at p c u j = Run.had-later p c r (last + n) u j (r j a).0 q in
      absurd
      (omega (
        arith,
        from_last u j a k hu n q,
        total_lt (had_at p c (last + n)) v.hi (members p) j (members_i p j r a) (omega (arith, hs, hu, w j a, b j a))
            (λ i m.
            let d = members_e p i m in
            omega (arith, Run.had_le p c r (last + n) i d, w i d, b i d)),
      )))
      (λ h. omega (tests, h, Run.had_le p c r u j a))
