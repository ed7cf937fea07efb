-- A run's progress, slot by slot, is what the model says of the run. Each part of it by induction on the slots gone.
-- For a policy p in which the jobs 1 to n take part, and times c:
--   progress_state, progress_slot   == its state is that of the run; its slot is the last one's
--   progress_lengths, progress_slots  == its lists have 64 places; no job has had more slots than have gone
--   progress_switch     == its switch is the run's, looking at the instants before t
--   progress_finishes   == a job that takes part, of time from 1 up, has its finish there once it is done, and 0 until then
--   progress_none       == and 0 stands for whoever takes no part
--   view-part           == the view of columns is such a policy's
--   progress_run        == at the span its progress is what the run answers
-- Assumes nothing.
use Rattle.std.specs.Prelude.{Some as At}
use Prim.Native.Nat.{ℕ, zero, suc, ◌-◌, ◌≤◌, ◌<◌}
use mathlib.Core.Path.{◌≡◌, refl, sym, ◌∙◌, ap, fun_ext}
use mathlib.Core.Bool.{Bool, true, false, cond, not, ◌&&◌, ◌||◌}
use mathlib.Core.List.{List, map}
use native.Mathlib.Omega.{arith}
use lib.Dec.{eqb, leb, ltb}
use lib.ListN.{length, replicate, length-set, length-replicate, get_or-replicate}
use borrow.Author.Tests.{eq-eqb, ne_eqb, eqb-true, eqb-false}
use Rattle.model.specs.declared.Level.{Level}
use Rattle.model.specs.declared.Level.TheVariants.{Lo, Hi}
use Rattle.model.specs.declared.State.{State}
use Rattle.model.specs.Lists.{at, from, numbers, least}
use Rattle.model.specs.Sets.{Policy, View, is_hi, span}
use Rattle.model.specs.Runs.{time, start, mode_now, slot_now, account, step, state_at, mode_at, slot_at, had_at, done_at, finish_of, switch_of, mark, outcome_in, switch_in}
use Rattle.model.specs.Scenarios.{places}
use Rattle.model.specs.Refusals.{good}
use Rattle.laws.proofs.Bools.{tests, split, clash}
use Rattle.laws.proofs.Lists.{least_le}
use Rattle.laws.proofs.Sums.{at-numbers}
use Rattle.laws.proofs.Places.{Placed, at_in, at_out, at_set, ext_at, pick-room, is_lo, is_hi_lem, account_lengths, account-had}
use Rattle.laws.proofs.Runs as Run
use Rattle.laws.proofs.Sound.{Sound}
use Rattle.laws.proofs.Ends.{Times, limit-hi}
use Rattle.laws.proofs.Finishes.{finish-same, finish_now}
use Rattle.laws.proofs.Outcomes.{mark_is}
use Rattle.columns.specs.declared.Columns.{Columns}
use Rattle.model.specs.declared.Ran.{Ran}
use Rattle.columns.specs.Columns.{view_of, listed}
use Rattle.runs.specs.Engine.{switched, noted, accounted, next, start_of, progress_at, run_of, Runnable}

at_none : (l : List ℕ) → ◌≡◌ {A = ℕ} (at l 0 0) 0
unfolding at
at_none l = refl

at-zeros : (j : ℕ) → ◌≡◌ {A = ℕ} (at (replicate 64 0) j 0) 0
unfolding at
at-zeros j =
    split (eqb j 0)
    (λ e. rw e refl)
    (λ e.
    let ne : j ≡ 0 → ⊥ = eqb-false j 0 e in
    split (leb j 64)
    (λ q. at_in (replicate 64 0) j 0 (omega (arith, ne)) ∙ get_or-replicate {A = ℕ} 64 (j - 1) 0 0 (omega (tests, q, ne)))
    (λ q. at_out (replicate 64 0) j 0 (omega (tests, q, length-replicate {A = ℕ} 64 0))))

had_bound : (c : List ℕ) (k : ℕ) (m : Level) (s : State) (j : ℕ) → length s.had ≡ 64 → k ≤ 64
    → at (account c k m s).had j 0 ≤ suc (at s.had j 0)
had_bound c k m s j n q =
    split (eqb j 0)
    (λ e. let z : j ≡ 0 = eqb-true j 0 e in rw z (omega (arith, at_none (account c k m s).had)))
    (λ e.
    let ne : j ≡ 0 → ⊥ = eqb-false j 0 e in
    let h = account-had c k m s j n q (omega (arith, ne)) in
    split (eqb k j) (λ z. omega (arith, rw z at h)) (λ z. omega (arith, rw z at h)))

switched_at : (u : ℕ) (m : Level) (t : ℕ) → switched (At u) m t ≡ At u
unfolding switched
switched_at u Lo t = refl
switched_at u Hi t = refl

noted-length : (l : List ℕ) (t j : ℕ) (s : State) → length (noted l t j s) ≡ length l
unfolding noted
noted-length l t j s =
    split (eqb j 0)
    (λ e. rw e refl)
    (λ e. rw e (split (at s.done j true) (λ d. rw d (length-set l (j - 1) (suc t))) (λ d. rw d refl)))

noted-at : (l : List ℕ) (t k : ℕ) (s : State) (j : ℕ) → length l ≡ 64 → k ≤ 64 → 1 ≤ j
    → at (noted l t k s) j 0 ≡ cond (eqb k j) (cond (at s.done j true) (suc t) (at l j 0)) (at l j 0)
unfolding noted
noted-at l t k s j n q r =
    split (eqb k 0)
    (λ e. rw e (rw (ne_eqb k j (omega (tests, e))) refl))
    (λ e.
    let ne : k ≡ 0 → ⊥ = eqb-false k 0 e in
    rw e
    (split (eqb k j)
    (λ z.
    let w : k ≡ j = eqb-true k j z in
    rw z
    (rw w
    (split (at s.done j true)
    (λ d. rw d (at_set l j j (suc t) 0 r (omega arith) r ∙ rw (eq-eqb j j refl) refl))
    (λ d. rw d refl))))
    (λ z. rw z
    (split (at s.done k true)
    (λ d. rw d (at_set l k j (suc t) 0 (omega (arith, ne)) (omega arith) r ∙ rw z refl))
    (λ d. rw d refl)))))

module _ (p : Policy) (n : ℕ) (c : List ℕ) where
  pub progress_lengths : (t : ℕ)
      → (length (progress_at p n c t).state.had ≡ 64) × (length (progress_at p n c t).state.done ≡ 64)
      × (length (progress_at p n c t).finishes ≡ 64)
  unfolding progress_at start_of next accounted numbers from
  progress_lengths zero = (length-replicate {A = ℕ} 64 0, refl, length-replicate {A = ℕ} 64 0)
  progress_lengths (suc t) =
      let g = progress_at p n c t in
      let k : ℕ = slot_now p g.state t in
      let m : Level = mode_now p g.state in
      let (had, done, finishes) = progress_lengths t in
      let r = account_lengths c k m g.state (had, done) in
      (r.0, r.1, noted-length g.finishes t k (account c k m g.state) ∙ finishes)

  slot_place : (t : ℕ) → slot_now p (progress_at p n c t).state t ≤ 64
  unfolding slot_now
  slot_place t =
      let s : State = (progress_at p n c t).state in
      omega (arith, pick-room (p.order (mode_now p s)) p.arrival s.done t, progress_lengths t)

  pub progress_slots : (t j : ℕ) → at (progress_at p n c t).state.had j 0 ≤ t
  unfolding progress_at start_of next accounted
  progress_slots zero j = omega (arith, at-zeros j)
  progress_slots (suc t) j =
      let s : State = (progress_at p n c t).state in
      omega (
        arith,
        progress_slots t j,
        had_bound c (slot_now p s t) (mode_now p s) s j (progress_lengths t).0 (slot_place t),
      )

  switch_suc : (t : ℕ) → switched (switch_of p c t) (mode_at p c t) t ≡ switch_of p c (suc t)
  unfolding switch_of least switched
  switch_suc t =
      let test : ℕ → Bool = λ u. is_hi (mode_at p c u) in
      let r : ℕ = least test t in
      split (ltb r t)
      (λ l.
      rw (l, ne_eqb r t (omega (tests, l)), ne_eqb r (suc t) (omega (tests, l)))
      (switched_at r (mode_at p c t) t))
      (λ l.
      let same : eqb r t ≡ true = eq-eqb r t (omega (tests, l, least_le test t)) in
      split (test t)
      (λ h. rw (l, same, h, is_hi_lem (mode_at p c t) h, ne_eqb t (suc t) (omega arith)) refl)
      (λ h. rw (l, same, h, is_lo (mode_at p c t) h, eq-eqb (suc t) (suc t) refl) refl))

  -- where the jobs 1 to n take part
  module _ (e : (j : ℕ) → p.part j ≡ (leb 1 j && leb j n)) where
    pub progress_state : (t : ℕ) → (progress_at p n c t).state ≡ state_at p c t
    unfolding progress_at start_of next accounted state_at start step
    progress_state zero =
        ap
        (λ (f : ℕ → Bool).
        record { mode = Lo; had = replicate 64 0; done = map (λ j. not (f j) || eqb (time c j) 0) (numbers 64) })
        (fun_ext (λ j. sym (e j)))
    progress_state (suc t) = ap (step p c t) (progress_state t)

    pub progress_slot : (t : ℕ) → (progress_at p n c (suc t)).slot ≡ slot_at p c t
    unfolding progress_at next accounted slot_at
    progress_slot t = ap (λ s. slot_now p s t) (progress_state t)

    pub progress_switch : (t : ℕ) → (progress_at p n c t).switch ≡ switch_of p c t
    unfolding progress_at start_of next accounted switch_of least mode_at
    progress_switch zero = refl
    progress_switch (suc t) =
        ap (λ x. switched x (mode_now p (progress_at p n c t).state) t) (progress_switch t)
        ∙ ap (λ s. switched (switch_of p c t) (mode_now p s) t) (progress_state t)
        ∙ switch_suc t

    finishes_suc : (t j : ℕ) → 1 ≤ j
        → at (progress_at p n c (suc t)).finishes j 0
        ≡ cond (eqb (slot_at p c t) j)
        (cond (done_at p c (suc t) j) (suc t) (at (progress_at p n c t).finishes j 0))
        (at (progress_at p n c t).finishes j 0)
    unfolding progress_at next accounted slot_at done_at state_at step
    finishes_suc t j one =
        let l : List ℕ = (progress_at p n c t).finishes in
        ap (λ s. at (noted l t (slot_now p s t) (step p c t s)) j 0) (progress_state t)
        ∙ noted-at l t (slot_at p c t) (state_at p c (suc t)) j (progress_lengths t).2 (Run.slot_room p c t) one

    module _ (room : Placed p) where
      -- 0 stands for whoever takes no part
      pub progress_none : (j : ℕ) → p.part j ≡ false → (t : ℕ) → at (progress_at p n c t).finishes j 0 ≡ 0
      unfolding progress_at start_of
      progress_none j a zero = at-zeros j
      progress_none j a (suc t) =
          split (eqb j 0)
          (λ z. let w : j ≡ 0 = eqb-true j 0 z in rw w (at_none (progress_at p n c (suc t)).finishes))
          (λ z.
          let ne : j ≡ 0 → ⊥ = eqb-false j 0 z in
          let one : 1 ≤ j = omega (arith, ne) in
          finishes_suc t j one
          ∙ rw (ne_eqb (slot_at p c t) j (λ q. clash (Run.slot_e p c room t j one q).0 a)) (progress_none j a t))

      pub progress_finishes : (j : ℕ) → p.part j ≡ true → 1 ≤ time c j → (t : ℕ)
          → at (progress_at p n c t).finishes j 0 ≡ cond (done_at p c t j) (finish_of p c t j) 0
      unfolding progress_at start_of
      progress_finishes j a one zero =
          at-zeros j
          ∙ rw (
            Run.done_is p c room 0 j a,
            ne_eqb (had_at p c 0 j) (time c j) (omega (arith, Run.had_zero p c j (room j a).0)),
          )
          refl
      progress_finishes j a one (suc t) =
          let before : at (progress_at p n c t).finishes j 0 ≡ cond (done_at p c t j) (finish_of p c t j) 0 = progress_finishes j a one t in
          finishes_suc t j (room j a).0
          ∙ split (eqb (slot_at p c t) j)
          (λ z.
          let h : had_at p c t j < time c j = (Run.slot_e p c room t j (room j a).0 (eqb-true (slot_at p c t) j z)).2 in
          let no : done_at p c t j ≡ false = Run.done_is p c room t j a ∙ ne_eqb (had_at p c t j) (time c j) (omega arith) in
          split (done_at p c (suc t) j)
          (λ d.
          rw (z, d)
          (sym
          (finish_now p c room j a one t (suc t) h
          (eqb-true (had_at p c (suc t) j) (time c j) (sym (Run.done_is p c room (suc t) j a) ∙ d))
          (omega arith))))
          (λ d. rw (z, d) (before ∙ rw no refl)))
          (λ z.
          let same : done_at p c (suc t) j ≡ done_at p c t j =
          Run.done_is p c room (suc t) j a
          ∙ ap (λ h. eqb h (time c j)) (Run.had_other p c room t j (room j a).0 (eqb-false (slot_at p c t) j z))
          ∙ sym (Run.done_is p c room t j a) in
          rw (z, same)
          (before
          ∙ split (done_at p c t j)
          (λ d.
          rw d
          (sym
          (finish-same p c room j a one t (suc t)
          (eqb-true (had_at p c t j) (time c j) (sym (Run.done_is p c room t j a) ∙ d))
          (omega arith))))
          (λ d. rw d refl)))

run-finishes : (v : View) (n : ℕ) (c : List ℕ) → ((j : ℕ) → v.policy.part j ≡ (leb 1 j && leb j n)) → Sound v → Times v c
    → (progress_at v.policy n c (span v)).finishes ≡ places v (λ j. mark (outcome_in v c j))
unfolding places numbers from
run-finishes v n c e s r =
    let p = v.policy in
    let room : Placed p = s.ordered.room in
    let f : ℕ → ℕ = λ j. cond (p.part j) (mark (outcome_in v c j)) 0 in
    let long : length (progress_at p n c (span v)).finishes ≡ 64 = (progress_lengths p n c (span v)).2 in
    ext_at 0 (progress_at p n c (span v)).finishes (map f (numbers 64)) long
    (λ j one q.
    split (p.part j)
    (λ a.
    progress_finishes p n c e room j a (r j a).0 (span v)
    ∙ sym (mark_is v s.ordered (limit-hi v s) c r j a)
    ∙ sym (at-numbers f 64 j 0 one (omega arith) ∙ rw a refl))
    (λ a. progress_none p n c e room j a (span v) ∙ sym (at-numbers f 64 j 0 one (omega arith) ∙ rw a refl)))

-- the jobs 1 to n take part in the view of columns
pub view-part : (k : Columns) (j : ℕ) → (view_of k).policy.part j ≡ (leb 1 j && leb j k.n)
unfolding view_of listed
view-part k j = refl

-- at the span, what the run answers
pub progress_run : (k : Columns) (c : List ℕ) → Runnable k c
    → ◌≡◌ {A = Ran}
    (record {
      refusal = record { number = 0; place = 0 };
      finishes = (progress_at (view_of k).policy k.n c (span (view_of k))).finishes;
      switch = (progress_at (view_of k).policy k.n c (span (view_of k))).switch;
    })
    (run_of (view_of k) c)
unfolding run_of switch_in good
progress_run k c r =
    rw (
      run-finishes (view_of k) k.n c (view-part k) r.sound r.range,
      progress_switch (view_of k).policy k.n c (view-part k) (span (view_of k)),
    )
    refl
