-- From the switch on, one sum. A run c of a weaker set w switches at τ, and B is a HI job unfinished there. d is a run of v that is in LO mode
-- before τ, in which every HI job unfinished in c at τ runs for its whole HI budget and has had no more by τ than in c. Then B is finished in c
-- when its image has had its HI budget in d. Over the HI jobs unfinished at τ that stand in the HI order at or before B, the work left in c is
-- never more than the work left in d; a job still to come counts in full.
--   counted i      == i is one of these jobs
--   left_c, left_d == the work left of i at an instant, in c and in d
--   no_more        == the sum is no more in c than in d, at every instant from τ on
--   end            == B is finished in c after the slot that completes its image in d
-- Assumes nothing.
use Prim.Native.Nat.{ℕ, suc, ◌-◌, ◌≤◌, ◌<◌}
use mathlib.Core.Path.{◌≡◌, refl, sym, ◌∙◌, subst}
use mathlib.Core.Bool.{Bool, true, false, cond, ◌&&◌}
use mathlib.Core.List.{List}
use mathlib.Core.Logic.{inr}
use native.Mathlib.Omega.{arith}
use native.Mathlib.Decide.{le_ind}
use lib.Dec.{eqb, leb, ltb}
use borrow.Author.Tests.{eqb-true, eqb-false, lt-ltb, le-ltb, ltb-true}
use Rattle.model.specs.declared.Level.TheVariants.{Hi}
use Rattle.model.specs.Lists.{mem, first, total}
use Rattle.model.specs.Sets.{Policy, View, is_hi, members, critical}
use Rattle.model.specs.Runs.{time, ready, state_at, mode_at, slot_at, had_at}
use Rattle.theory.specs.Weaker.{Weaker}
use Rattle.laws.proofs.Bools.{tests, split, clash, and_l, and_r, and_i}
use Rattle.laws.proofs.Lists.{first_some, first-none}
use Rattle.laws.proofs.Sums.{total_le, total_lt, total_eq, total_one}
use Rattle.theory.proofs.Orders.{before, before_self, before-mem, before_trans, first-before, first_fails, embed_before, embed_one}
use Rattle.laws.proofs.Places.{members_i, members-distinct, members_nonzero, is_hi_lem}
use Rattle.laws.proofs.Runs as Run
use Rattle.laws.proofs.Sound.{Ordered}
use Rattle.laws.proofs.Ends.{no_idle}

-- i is a HI job of p, unfinished in the run c at τ
unfoldable pub unfinished : Policy → List ℕ → ℕ → ℕ → Bool
unfinished p c τ i = p.part i && (critical p i && ltb (had_at p c τ i) (time c i))

module _ (p : Policy) (c : List ℕ) (τ i : ℕ) where
  pub unfinished_i : p.part i ≡ true → critical p i ≡ true → had_at p c τ i < time c i → unfinished p c τ i ≡ true
  unfolding unfinished
  unfinished_i a k h = and_i a (and_i k (lt-ltb (had_at p c τ i) (time c i) h))

  pub unfinished_e : unfinished p c τ i ≡ true → (p.part i ≡ true) × (critical p i ≡ true) × (had_at p c τ i < time c i)
  unfolding unfinished
  unfinished_e h =
      let r = and_r (p.part i) (critical p i && ltb (had_at p c τ i) (time c i)) h in (
        and_l (p.part i) (critical p i && ltb (had_at p c τ i) (time c i)) h,
        and_l (critical p i) (ltb (had_at p c τ i) (time c i)) r,
        ltb-true (had_at p c τ i) (time c i) (and_r (critical p i) (ltb (had_at p c τ i) (time c i)) r),
      )

unfoldable counted : Policy → List ℕ → ℕ → ℕ → ℕ → Bool
counted p c τ B i = unfinished p c τ i && before (p.order Hi) i B

module _ (w v : View) (e : ℕ → ℕ) (k : Weaker e w v) (ow : Ordered w.policy) (ov : Ordered v.policy) (c d : List ℕ) (τ B : ℕ)
    (hi-c : is_hi (mode_at w.policy c τ) ≡ true)
    (within-c : (i : ℕ) → unfinished w.policy c τ i ≡ true → time c i ≤ v.hi (e i))
    (whole-d : (i : ℕ) → unfinished w.policy c τ i ≡ true → time d (e i) ≡ v.hi (e i))
    (ahead-d : (i : ℕ) → unfinished w.policy c τ i ≡ true → had_at v.policy d τ (e i) ≤ had_at w.policy c τ i) where
  W : ℕ → Bool
  W i = counted w.policy c τ B i

  of_W : (i : ℕ) → W i ≡ true → unfinished w.policy c τ i ≡ true
  unfolding W counted
  of_W i h = and_l (unfinished w.policy c τ i) (before (w.policy.order Hi) i B) h

  before_W : (i : ℕ) → W i ≡ true → before (w.policy.order Hi) i B ≡ true
  unfolding W counted
  before_W i h = and_r (unfinished w.policy c τ i) (before (w.policy.order Hi) i B) h

  part_W : (i : ℕ) → W i ≡ true → w.policy.part i ≡ true
  part_W i h = (unfinished_e w.policy c τ i (of_W i h)).0

  named_W : (i : ℕ) → W i ≡ true → mem i (w.policy.order Hi) ≡ true
  named_W i h = before-mem (w.policy.order Hi) i B (before_W i h)

  one_W : (i : ℕ) → W i ≡ true → (1 ≤ i) × (1 ≤ e i)
  one_W i h = ((ow.room i (part_W i h)).0, (ov.room (e i) (k.job i (part_W i h))).0)

  left_c : ℕ → ℕ → ℕ
  left_c t i = cond (W i) (cond (ltb (w.policy.arrival i) t) (time c i - had_at w.policy c t i) (v.hi (e i))) 0

  left_d : ℕ → ℕ → ℕ
  left_d t i = cond (W i) (v.hi (e i) - had_at v.policy d t (e i)) 0

  -- the work left of a counted job in c, where it has come by t and where not
  come : (t i : ℕ) → W i ≡ true → w.policy.arrival i < t → left_c t i ≡ time c i - had_at w.policy c t i
  unfolding left_c
  come t i h r = rw (h, lt-ltb (w.policy.arrival i) t r) refl

  to_come : (t i : ℕ) → W i ≡ true → t ≤ w.policy.arrival i → (left_c t i ≡ v.hi (e i)) × (left_d t i ≡ v.hi (e i))
  unfolding left_c left_d
  to_come t i h r = (
    rw (h, le-ltb (w.policy.arrival i) t r) refl,
    rw h
        (let z = Run.had_early v.policy d ov.room t (e i) (one_W i h).1 (omega (arith, r, k.arrival i (part_W i h))) in omega (arith, z)),
  )

  left_d_is : (t i : ℕ) → W i ≡ true → left_d t i ≡ v.hi (e i) - had_at v.policy d t (e i)
  unfolding left_d
  left_d_is t i h = rw h refl

  -- a job that is not counted weighs nothing
  none : (t i : ℕ) → W i ≡ false → (left_c t i ≡ 0) × (left_d t i ≡ 0)
  unfolding left_c left_d
  none t i h = (rw h refl, rw h refl)

  Sum_c : ℕ → ℕ
  Sum_c t = total (left_c t) (members w.policy)

  Sum_d : ℕ → ℕ
  Sum_d t = total (left_d t) (members w.policy)

  -- term by term, where it holds of each counted job
  by_terms : (t : ℕ) → ((i : ℕ) → W i ≡ true → left_c t i ≤ left_d t i) → Sum_c t ≤ Sum_d t
  unfolding Sum_c Sum_d
  by_terms t h =
      total_le (left_c t) (left_d t) (members w.policy)
      (λ i m. split (W i) (λ x. h i x) (λ x. omega (arith, none t i x)))

  at-switch : Sum_c τ ≤ Sum_d τ
  at-switch =
      by_terms τ
      (λ i x.
      split (ltb (w.policy.arrival i) τ)
      (λ r. omega (arith, come τ i x (omega (tests, r)), left_d_is τ i x, ahead-d i (of_W i x), within-c i (of_W i x)))
      (λ r. omega (arith, to_come τ i x (omega (tests, r)))))

  -- the work left in d falls by at most one in a slot
  slow_d : (t : ℕ) → Sum_d t ≤ suc (Sum_d (suc t))
  unfolding Sum_d
  slow_d t =
      let q = v.policy in
      let x : ℕ → Bool = λ i. W i && eqb (e i) (slot_at q d t) in
      let j : ℕ = first x (members w.policy) in
      total_one (left_d t) (left_d (suc t)) (members w.policy) j (members-distinct w.policy)
      (λ i m ne.
      split (W i)
      (λ h.
      split (eqb (e i) (slot_at q d t))
      (λ z.
      let here : x i ≡ true = and_i h z in
      let some : j ≡ 0 → ⊥ =
      λ n. clash here (first-none x (members w.policy) i (members_nonzero w.policy) n m) in
      let r = (first_some x (members w.policy) some).1 in
      let hj : W j ≡ true = and_l (W j) (eqb (e j) (slot_at q d t)) r in
      let ej : e j ≡ slot_at q d t = eqb-true (e j) (slot_at q d t) (and_r (W j) (eqb (e j) (slot_at q d t)) r) in
      absurd
      (ne
      (embed_one e (w.policy.order Hi) (q.order Hi) ov.hi_once k.hi_order i j (named_W i h) (named_W j hj)
      (eqb-true (e i) (slot_at q d t) z ∙ sym ej))))
      (λ z.
      let ne' : slot_at q d t ≡ e i → ⊥ = λ y. eqb-false (e i) (slot_at q d t) z (sym y) in
      omega
      (arith, left_d_is t i h, left_d_is (suc t) i h, Run.had_other q d ov.room t (e i) (one_W i h).1 ne')))
      (λ h. omega (arith, none t i h)))
      (split (W j)
      (λ h. omega (arith, left_d_is t j h, left_d_is (suc t) j h, Run.had-more q d ov.room t (e j) (one_W j h).1))
      (λ h. omega (arith, none t j h)))

  -- the work left of a counted job in c never grows
  falls_c : (t i : ℕ) → W i ≡ true → left_c (suc t) i ≤ left_c t i
  falls_c t i h =
      let p = w.policy in
      let more = Run.had-more p c ow.room t i (one_W i h).0 in
      split (ltb (p.arrival i) t)
      (λ r. omega (arith, come t i h (omega (tests, r)), come (suc t) i h (omega (tests, r)), more))
      (λ r.
      let x = (to_come t i h (omega (tests, r))).0 in
      split (ltb (p.arrival i) (suc t))
      (λ u. omega (arith, x, come (suc t) i h (omega (tests, u)), within-c i (of_W i h)))
      (λ u. omega (arith, x, (to_come (suc t) i h (omega (tests, u))).0)))

  -- and falls where c runs it
  fast_c : (t i : ℕ) → W i ≡ true → slot_at w.policy c t ≡ i → left_c (suc t) i < left_c t i
  fast_c t i h z =
      let p = w.policy in
      let sl = Run.slot_e p c ow.room t i (one_W i h).0 z in
      let up = Run.had_slot p c ow.room t i (one_W i h).0 z in
      let after = come (suc t) i h (omega (arith, sl.1)) in
      split (ltb (p.arrival i) t)
      (λ r. omega (arith, come t i h (omega (tests, r)), after, up, sl.2))
      (λ r. omega (arith, (to_come t i h (omega (tests, r))).0, after, up, sl.2, within-c i (of_W i h)))

  -- where c does not run a counted job in HI mode, none is ready
  all_done : (t : ℕ) → τ ≤ t → W (slot_at w.policy c t) ≡ false → (i : ℕ) → W i ≡ true → w.policy.arrival i ≤ t
      → time c i ≤ had_at w.policy c t i
  unfolding W counted
  all_done t q n i h r =
      let p = w.policy in
      let j : ℕ = slot_at p c t in
      let hi : mode_at p c t ≡ Hi = is_hi_lem (mode_at p c t) (Run.hi-later p c ow.room τ t q hi-c) in
      let un = unfinished_e p c τ i (of_W i h) in
      split (ltb (had_at p c t i) (time c i))
      (λ l.
      let less : had_at p c t i < time c i = omega (tests, l) in
      let some : j ≡ 0 → ⊥ = no_idle p ow c t i un.0 (inr un.1) r less in
      let sj = Run.slot_e p c ow.room t j (omega (arith, some)) refl in
      let jh : mem j (p.order Hi) ≡ true = subst (λ m. mem j (p.order m) ≡ true) hi sj.3 in
      let ju : unfinished p c τ j ≡ true =
      unfinished_i p c τ j sj.0 (ow.hi_only j jh).1
      (omega (arith, sj.2, Run.had-later p c ow.room τ t j (omega (arith, some)) q)) in
      let ji : before (p.order Hi) j i ≡ true =
      subst (λ m. before (p.order m) j i ≡ true) hi
      (subst (λ x. before (p.order (mode_at p c t)) x i ≡ true) (sym (Run.slot_is p c ow.room t))
      (first-before (ready p.arrival (state_at p c t).done t) (p.order (mode_at p c t)) i
      (subst (λ m. mem i (p.order m) ≡ true) (sym hi) (named_W i h))
      (Run.ready_i p c ow.room t i un.0 r less))) in
      clash (and_i ju (before_trans (p.order Hi) j i B ji (before_W i h))) n)
      (λ l. omega (tests, l))

  step : (t : ℕ) → τ ≤ t → Sum_c t ≤ Sum_d t → Sum_c (suc t) ≤ Sum_d (suc t)
  unfolding Sum_c
  step t q s =
      let p = w.policy in
      let j : ℕ = slot_at p c t in
      split (W j)
      (λ h.
      omega (
        arith,
        s,
        slow_d t,
        total_lt (left_c (suc t)) (left_c t) (members p) j (members_i p j ow.room (part_W j h)) (fast_c t j h refl)
            (λ i m. split (W i) (λ x. falls_c t i x) (λ x. omega (arith, none t i x, none (suc t) i x))),
      ))
      (λ n.
      by_terms (suc t)
      (λ i h.
      split (leb (p.arrival i) t)
      (λ r.
      let fin = all_done t q n i h (omega (tests, r)) in
      omega
      (arith, come (suc t) i h (omega (tests, r)), fin, Run.had-more p c ow.room t i (one_W i h).0))
      (λ r. omega (arith, to_come (suc t) i h (omega (tests, r))))))

  no_more : (t : ℕ) → τ ≤ t → Sum_c t ≤ Sum_d t
  no_more t q = le_ind (λ n. Sum_c n ≤ Sum_d n) at-switch (λ m r s. step m r s) t q

  pub end : unfinished w.policy c τ B ≡ true → (f : ℕ) → τ ≤ f → is_hi (mode_at v.policy d f) ≡ true → slot_at v.policy d f ≡ e B
      → v.hi (e B) ≤ had_at v.policy d (suc f) (e B) → time c B ≤ had_at w.policy c (suc f) B
  unfolding W counted Sum_c Sum_d
  end ub f q hi sl full =
      let p = w.policy in
      let o = v.policy in
      let un = unfinished_e p c τ B ub in
      let named : mem B (p.order Hi) ≡ true = ow.hi_names B un.0 un.1 in
      let hB : W B ≡ true = and_i ub (before_self (p.order Hi) B named) in
      let sB = Run.slot_e o d ov.room f (e B) (one_W B hB).1 sl in
      let m : mode_at o d f ≡ Hi = is_hi_lem (mode_at o d f) hi in
      let first_is = sym (Run.slot_is o d ov.room f) ∙ sl in
      let terms : (i : ℕ) → mem i (members p) ≡ true → left_d (suc f) i ≤ left_c (suc f) i =
      λ i mi.
      split (W i)
      (λ h.
      split (eqb i B)
      (λ z.
      let zB : i ≡ B = eqb-true i B z in
      subst (λ x. left_d (suc f) x ≤ left_c (suc f) x) (sym zB) (omega (arith, left_d_is (suc f) B hB, full)))
      (λ z.
      split (leb (p.arrival i) f)
      (λ r.
      let ne : e i ≡ e B → ⊥ =
      λ y.
      eqb-false i B z
      (embed_one e (p.order Hi) (o.order Hi) ov.hi_once k.hi_order i B (named_W i h) named y) in
      let eb : before (o.order Hi) (e i) (e B) ≡ true =
      embed_before e (p.order Hi) (o.order Hi) ov.hi_once k.hi_order i B named (before_W i h) in
      let unready : ready o.arrival (state_at o d f).done f (e i) ≡ false =
      first_fails (ready o.arrival (state_at o d f).done f) (o.order (mode_at o d f)) (e i)
      (λ y. omega (arith, y, first_is, (one_W B hB).1))
      (subst (λ x. before (o.order (mode_at o d f)) (e i) x ≡ true) (sym first_is)
      (subst (λ x. before (o.order x) (e i) (e B) ≡ true) (sym m) eb))
      (λ y. ne (y ∙ first_is)) in
      omega (
        arith,
        left_d_is (suc f) i h,
        whole-d i (of_W i h),
        Run.ready_no o d ov.room f (e i) (k.job i (part_W i h)) (omega (tests, r, k.arrival i (part_W i h))) unready,
        Run.had-more o d ov.room f (e i) (one_W i h).1,
      ))
      (λ r. omega (arith, to_come (suc f) i h (omega (tests, r))))))
      (λ h. omega (arith, none (suc f) i h)) in
      let same : left_d (suc f) B ≡ left_c (suc f) B =
      total_eq (left_d (suc f)) (left_c (suc f)) (members p) B (members_i p B ow.room un.0) terms (no_more (suc f) (omega arith)) in
      omega (arith, same, left_d_is (suc f) B hB, full, come (suc f) B hB (omega (arith, sB.1, k.arrival B un.0)))
