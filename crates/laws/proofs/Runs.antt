-- Laws of one run: what the slots, the modes and the state say of each other, for any policy and any running times.
--   had_suc          == a job has had one slot more exactly after a slot of its own
--   had_le, done_is  == it never has more than its time, and is done when it has had it
--   slot_e, slot-of  == who gets a slot has arrived and is unfinished; where somebody is ready, somebody gets the slot
--   hi-stays, hi-by  == the mode HI stays; an overrun makes it HI;  hi-from: and nothing else does
--   lo_bound         == in LO mode an unfinished job has had less than its LO budget
-- Assumes nothing.
use Prim.Native.Nat.{ℕ, zero, suc, ◌+◌, ◌-◌, ◌≤◌, ◌<◌}
use mathlib.Core.Path.{◌≡◌, refl, sym, ◌∙◌, ap, subst}
use mathlib.Core.Bool.{true, false, not, cond, ◌&&◌, ◌||◌}
use mathlib.Core.List.{List}
use mathlib.Core.Logic.{◌⊎◌, inl, inr, ⊎_elim}
use native.Mathlib.Omega.{arith}
use native.Mathlib.Decide.{le_ind}
use lib.Dec.{eqb, leb, ltb}
use lib.ListN.{length, length-replicate, get_or-replicate}
use borrow.Author.Tests.{eq-eqb, ne_eqb, eqb-true, eqb-false, not-true, leb-true, le-leb}
use Rattle.model.specs.declared.State.{State}
use Rattle.model.specs.Lists.{at, from, numbers, first, any, mem}
use Rattle.model.specs.Sets.{Policy, is_hi, members, critical}
use Rattle.model.specs.Runs.{time, start, overruns, mode_now, ready, pick, slot_now, account, step, state_at, mode_at, slot_at, had_at, done_at}
use Rattle.laws.proofs.Bools.{tests, split, clash, same, not_i, and_l, and_r, and_i, or_l, or_r, or_cases}
use Rattle.laws.proofs.Lists.{any_i, any_e, first_some}
use Rattle.laws.proofs.Sums.{at-numbers}
use Rattle.laws.proofs.Places.{Placed, at_in, at_out, pick-room, members_i, members_e, cond-hi, account_lengths, account-had, account-done, account_mode}

module _ (p : Policy) (c : List ℕ) where
  state_suc : (t : ℕ) → state_at p c (suc t) ≡ account c (slot_at p c t) (mode_at p c t) (state_at p c t)
  unfolding state_at step slot_at slot_now mode_at
  state_suc t = refl

  lengths : (t : ℕ) → (length (state_at p c t).had ≡ 64) × (length (state_at p c t).done ≡ 64)
  unfolding state_at start numbers from
  lengths zero = (length-replicate {A = ℕ} 64 0, refl)
  lengths (suc t) =
      subst (λ s. (length s.had ≡ 64) × (length s.done ≡ 64)) (sym (state_suc t))
      (account_lengths c (slot_at p c t) (mode_at p c t) (state_at p c t) (lengths t))

  -- who gets a slot is ready in the present mode's order
  slot_some : (t : ℕ) → (slot_at p c t ≡ 0 → ⊥)
      → (mem (slot_at p c t) (p.order (mode_at p c t)) ≡ true) × (ready p.arrival (state_at p c t).done t (slot_at p c t) ≡ true)
  unfolding slot_at slot_now mode_at pick
  slot_some t h = first_some (ready p.arrival (state_at p c t).done t) (p.order (mode_at p c t)) h

  pub slot_room : (t : ℕ) → slot_at p c t ≤ 64
  unfolding slot_at slot_now
  slot_room t = omega (arith, pick-room (p.order (mode_now p (state_at p c t))) p.arrival (state_at p c t).done t, lengths t)

  pub had_zero : (j : ℕ) → 1 ≤ j → had_at p c 0 j ≡ 0
  unfolding had_at state_at start
  had_zero j h =
      split (leb j 64)
      (λ q. at_in (state_at p c 0).had j 0 h ∙ get_or-replicate {A = ℕ} 64 (j - 1) 0 0 (omega (tests, q)))
      (λ q. at_out (state_at p c 0).had j 0 (omega (tests, q, (lengths 0).0)))

  pub had_suc : (t j : ℕ) → 1 ≤ j → had_at p c (suc t) j ≡ had_at p c t j + cond (eqb (slot_at p c t) j) 1 0
  unfolding had_at
  had_suc t j h =
      ap (λ (s : State). at s.had j 0) (state_suc t)
      ∙ account-had c (slot_at p c t) (mode_at p c t) (state_at p c t) j (lengths t).0 (slot_room t) h

  done_suc : (t j : ℕ) → 1 ≤ j
      → done_at p c (suc t) j ≡ cond (eqb (slot_at p c t) j) (eqb (suc (had_at p c t j)) (time c j)) (done_at p c t j)
  unfolding had_at done_at
  done_suc t j h =
      ap (λ (s : State). at s.done j true) (state_suc t)
      ∙ account-done c (slot_at p c t) (mode_at p c t) (state_at p c t) j (lengths t).1 (slot_room t) h

  module _ (room : Placed p) where
    -- what is known of a number at an instant: a job that takes part is done when it has had its time; any other number is done
    Known : ℕ → ℕ → Type 0
    Known t j =
        (p.part j ≡ true → (done_at p c t j ≡ eqb (had_at p c t j) (time c j)) × (had_at p c t j ≤ time c j))
        × (p.part j ≡ false → done_at p c t j ≡ true)

    known_start : (j : ℕ) → 1 ≤ j → Known 0 j
    unfolding Known done_at state_at start
    known_start j h =
        split (leb j 64)
        (λ q.
        let e : done_at p c 0 j ≡ (not (p.part j) || eqb (time c j) 0) =
        at-numbers (λ i. not (p.part i) || eqb (time c i) 0) 64 j true h (omega (tests, q)) in (
          λ a. (
            e ∙ ap (λ b. not b || eqb (time c j) 0) a
                ∙ same (λ z. eq-eqb (had_at p c 0 j) (time c j) (had_zero j h ∙ sym (eqb-true (time c j) 0 z)))
                (λ z. eq-eqb (time c j) 0 (sym (eqb-true (had_at p c 0 j) (time c j) z) ∙ had_zero j h)),
            omega (arith, had_zero j h),
          ),
          λ a. e ∙ ap (λ b. not b || eqb (time c j) 0) a,
        ))
        (λ q. (
          λ a. absurd (omega (tests, q, room j a)),
          λ a. at_out (state_at p c 0).done j true (omega (tests, q, (lengths 0).1)),
        ))

    known_suc : (t j : ℕ) → 1 ≤ j → Known t j → Known (suc t) j
    unfolding Known ready done_at
    known_suc t j h (k, l) =
        split (eqb (slot_at p c t) j)
        (λ e.
        let z : slot_at p c t ≡ j = eqb-true (slot_at p c t) j e in
        let r = (slot_some t (λ n. omega (arith, n, z))).1 in
        let d : done_at p c t j ≡ false =
        not-true (done_at p c t j)
        (subst (λ i. not (done_at p c t i) ≡ true) z
        (and_r (leb (p.arrival (slot_at p c t)) t) (not (done_at p c t (slot_at p c t))) r)) in
        let hs : had_at p c (suc t) j ≡ suc (had_at p c t j) = had_suc t j h ∙ rw e (omega arith) in (
          λ a.
              let ne : had_at p c t j ≡ time c j → ⊥ = eqb-false (had_at p c t j) (time c j) (sym (k a).0 ∙ d) in
              (done_suc t j h ∙ rw e (ap (λ n. eqb n (time c j)) (sym hs)), omega (arith, hs, ne, (k a).1)),
          λ a. clash (l a) d,
        ))
        (λ e.
        let hs : had_at p c (suc t) j ≡ had_at p c t j = had_suc t j h ∙ rw e (omega arith) in
        let ds : done_at p c (suc t) j ≡ done_at p c t j = done_suc t j h ∙ rw e refl in
        (λ a. (ds ∙ (k a).0 ∙ ap (λ n. eqb n (time c j)) (sym hs), omega (arith, hs, (k a).1)), λ a. ds ∙ l a))

    known : (t j : ℕ) → 1 ≤ j → Known t j
    known zero j h = known_start j h
    known (suc t) j h = known_suc t j h (known t j h)

    pub done_is : (t j : ℕ) → p.part j ≡ true → done_at p c t j ≡ eqb (had_at p c t j) (time c j)
    unfolding Known
    done_is t j a = ((known t j (room j a).0).0 a).0

    pub had_le : (t j : ℕ) → p.part j ≡ true → had_at p c t j ≤ time c j
    unfolding Known
    had_le t j a = ((known t j (room j a).0).0 a).1

    pub ready_i : (t j : ℕ) → p.part j ≡ true → p.arrival j ≤ t → had_at p c t j < time c j → ready p.arrival (state_at p c t).done t j ≡ true
    unfolding ready done_at
    ready_i t j a r h =
        and_i (le-leb (p.arrival j) t r) (not_i (done_is t j a ∙ ne_eqb (had_at p c t j) (time c j) (omega arith)))

    pub ready_no : (t j : ℕ) → p.part j ≡ true → p.arrival j ≤ t → ready p.arrival (state_at p c t).done t j ≡ false → time c j ≤ had_at p c t j
    ready_no t j a r h =
        split (ltb (had_at p c t j) (time c j)) (λ q. clash (ready_i t j a r (omega (tests, q))) h) (λ q. omega (tests, q))

    pub slot_e : (t j : ℕ) → 1 ≤ j → slot_at p c t ≡ j
        → (p.part j ≡ true) × (p.arrival j ≤ t) × (had_at p c t j < time c j) × (mem j (p.order (mode_at p c t)) ≡ true)
    unfolding ready done_at Known
    slot_e t j h e =
        let r = slot_some t (λ n. omega (arith, n, e)) in
        let g : (leb (p.arrival j) t && not (done_at p c t j)) ≡ true =
        subst (λ i. (leb (p.arrival i) t && not (done_at p c t i)) ≡ true) e r.1 in
        let d : done_at p c t j ≡ false = not-true (done_at p c t j) (and_r (leb (p.arrival j) t) (not (done_at p c t j)) g) in
        let a : p.part j ≡ true = split (p.part j) (λ b. b) (λ b. clash ((known t j h).1 b) d) in
        let ne : had_at p c t j ≡ time c j → ⊥ = eqb-false (had_at p c t j) (time c j) (sym (done_is t j a) ∙ d) in (
          a,
          leb-true (p.arrival j) t (and_l (leb (p.arrival j) t) (not (done_at p c t j)) g),
          omega (arith, ne, had_le t j a),
          subst (λ i. mem i (p.order (mode_at p c t)) ≡ true) e r.0,
        )

    pub slot_is : (t : ℕ) → slot_at p c t ≡ first (ready p.arrival (state_at p c t).done t) (p.order (mode_at p c t))
    unfolding slot_at slot_now mode_at pick
    slot_is t = refl

    -- slots had only grow, by at most one
    pub had-more : (t j : ℕ) → 1 ≤ j → (had_at p c t j ≤ had_at p c (suc t) j) × (had_at p c (suc t) j ≤ suc (had_at p c t j))
    had-more t j h =
        split (eqb (slot_at p c t) j)
        (λ e. let s : had_at p c (suc t) j ≡ suc (had_at p c t j) = had_suc t j h ∙ rw e (omega arith) in omega (arith, s))
        (λ e. let s : had_at p c (suc t) j ≡ had_at p c t j = had_suc t j h ∙ rw e (omega arith) in omega (arith, s))

    pub had_slot : (t j : ℕ) → 1 ≤ j → slot_at p c t ≡ j → had_at p c (suc t) j ≡ suc (had_at p c t j)
    had_slot t j h e = had_suc t j h ∙ rw (eq-eqb (slot_at p c t) j e) (omega arith)

    pub had_other : (t j : ℕ) → 1 ≤ j → (slot_at p c t ≡ j → ⊥) → had_at p c (suc t) j ≡ had_at p c t j
    had_other t j h e = had_suc t j h ∙ rw (ne_eqb (slot_at p c t) j e) (omega arith)

    pub had-later : (t u j : ℕ) → 1 ≤ j → t ≤ u → had_at p c t j ≤ had_at p c u j
    had-later t u j h r =
        le_ind (λ n. had_at p c t j ≤ had_at p c n j) (omega arith) (λ m q i. omega (arith, i, (had-more m j h).0)) u r

    -- no slot before the arrival
    pub had_early : (t j : ℕ) → 1 ≤ j → t ≤ p.arrival j → had_at p c t j ≡ 0
    had_early zero j h r = had_zero j h
    had_early (suc t) j h r =
        split (eqb (slot_at p c t) j)
        (λ e. absurd (omega (arith, (slot_e t j h (eqb-true (slot_at p c t) j e)).1)))
        (λ e. had_other t j h (eqb-false (slot_at p c t) j e) ∙ had_early t j h (omega arith))

    -- the mode ------------------------------------------------------------------------------------------------------------------------

    -- j has had exactly its LO budget, and its time is longer
    abbrev pub Overrun : ℕ → ℕ → Type 0
    Overrun t j = (p.part j ≡ true) × (critical p j ≡ true) × (had_at p c t j ≡ p.lo j) × (had_at p c t j < time c j)

    hi_is : (t : ℕ) → is_hi (mode_at p c t) ≡ (is_hi (state_at p c t).mode || any (overruns p (state_at p c t)) (members p))
    unfolding mode_at mode_now
    hi_is t = cond-hi (is_hi (state_at p c t).mode || any (overruns p (state_at p c t)) (members p))

    mode_suc : (t : ℕ) → (state_at p c (suc t)).mode ≡ mode_at p c t
    mode_suc t = ap (λ (s : State). s.mode) (state_suc t) ∙ account_mode c (slot_at p c t) (mode_at p c t) (state_at p c t)

    pub hi_suc : (t : ℕ) → is_hi (mode_at p c t) ≡ true → is_hi (mode_at p c (suc t)) ≡ true
    hi_suc t h = hi_is (suc t) ∙ or_l (any (overruns p (state_at p c (suc t))) (members p)) (ap is_hi (mode_suc t) ∙ h)

    pub hi-later : (t u : ℕ) → t ≤ u → is_hi (mode_at p c t) ≡ true → is_hi (mode_at p c u) ≡ true
    hi-later t u r h = le_ind (λ n. is_hi (mode_at p c n) ≡ true) h (λ m q i. hi_suc m i) u r

    pub lo_earlier : (t u : ℕ) → t ≤ u → is_hi (mode_at p c u) ≡ false → is_hi (mode_at p c t) ≡ false
    lo_earlier t u r h = split (is_hi (mode_at p c t)) (λ e. clash (hi-later t u r e) h) (λ e. e)

    pub hi-by : (t j : ℕ) → Overrun t j → is_hi (mode_at p c t) ≡ true
    unfolding overruns had_at done_at
    hi-by t j o =
        hi_is t
        ∙ or_r (is_hi (state_at p c t).mode)
        (any_i (overruns p (state_at p c t)) (members p) j (members_i p j room o.0)
        (and_i o.1
        (and_i (eq-eqb (had_at p c t j) (p.lo j) o.2) (not_i (done_is t j o.0 ∙ ne_eqb (had_at p c t j) (time c j) (omega (arith, o.3)))))))

    overrun_e : (t : ℕ) → any (overruns p (state_at p c t)) (members p) ≡ true → (j : ℕ) × Overrun t j
    unfolding overruns had_at done_at
    overrun_e t h =
        let r = any_e (overruns p (state_at p c t)) (members p) h in
        let j : ℕ = r.0 in
        let a : p.part j ≡ true = members_e p j r.1 in
        let q = and_r (critical p j) (eqb (had_at p c t j) (p.lo j) && not (done_at p c t j)) r.2 in
        let d : done_at p c t j ≡ false = not-true (done_at p c t j) (and_r (eqb (had_at p c t j) (p.lo j)) (not (done_at p c t j)) q) in
        let ne : had_at p c t j ≡ time c j → ⊥ = eqb-false (had_at p c t j) (time c j) (sym (done_is t j a) ∙ d) in (
          j,
          (
            a,
            and_l (critical p j) (eqb (had_at p c t j) (p.lo j) && not (done_at p c t j)) r.2,
            eqb-true (had_at p c t j) (p.lo j) (and_l (eqb (had_at p c t j) (p.lo j)) (not (done_at p c t j)) q),
            omega (arith, ne, had_le t j a),
          ),
        )

    pub hi-from-start : is_hi (mode_at p c 0) ≡ true → (j : ℕ) × Overrun 0 j
    unfolding state_at start is_hi
    hi-from-start h =
        ⊎_elim (λ e. clash {b = false} e refl) (λ o. overrun_e 0 o)
        (or_cases (is_hi (state_at p c 0).mode) (any (overruns p (state_at p c 0)) (members p)) (sym (hi_is 0) ∙ h))

    pub hi-from : (t : ℕ) → is_hi (mode_at p c (suc t)) ≡ true → (is_hi (mode_at p c t) ≡ true) ⊎ ((j : ℕ) × Overrun (suc t) j)
    hi-from t h =
        ⊎_elim (λ e. inl (ap is_hi (sym (mode_suc t)) ∙ e)) (λ o. inr (overrun_e (suc t) o))
        (or_cases (is_hi (state_at p c (suc t)).mode) (any (overruns p (state_at p c (suc t))) (members p)) (sym (hi_is (suc t)) ∙ h))

    -- in LO mode an unfinished HI job has had less than its LO budget
    lo_bound_hi : (t j : ℕ) → is_hi (mode_at p c t) ≡ false → p.part j ≡ true → critical p j ≡ true → had_at p c t j < time c j
        → had_at p c t j < p.lo j
    lo_bound_hi t j m a k h =
        split (eqb (had_at p c t j) (p.lo j))
        (λ e. clash (hi-by t j (a, k, eqb-true (had_at p c t j) (p.lo j) e, h)) m)
        (λ e. below t m h (eqb-false (had_at p c t j) (p.lo j) e))
      where
        one : 1 ≤ j
        one = (room j a).0

        below : (u : ℕ) → is_hi (mode_at p c u) ≡ false → had_at p c u j < time c j → (had_at p c u j ≡ p.lo j → ⊥) → had_at p c u j < p.lo j
        below zero m' h' ne = omega (arith, had_zero j one, ne)
        below (suc u) m' h' ne =
            let mu : is_hi (mode_at p c u) ≡ false = lo_earlier u (suc u) (omega arith) m' in
            let hu : had_at p c u j < time c j = omega (arith, had-more u j one, h') in
            let nu : had_at p c u j ≡ p.lo j → ⊥ = λ e. clash (hi-by u j (a, k, e, hu)) mu in
            omega (arith, below u mu hu nu, had-more u j one, ne)

    -- and so has a LO job whose time is at most its LO budget
    pub lo_bound : (t j : ℕ) → is_hi (mode_at p c t) ≡ false → p.part j ≡ true → (critical p j ≡ false → time c j ≤ p.lo j)
        → had_at p c t j < time c j → had_at p c t j < p.lo j
    lo_bound t j m a l h =
        split (critical p j) (λ k. lo_bound_hi t j m a k h) (λ k. omega (arith, l k))

    -- as long as the mode is LO no HI job has had more than its LO budget
    pub lo_most : (t j : ℕ) → is_hi (mode_at p c t) ≡ false → p.part j ≡ true → critical p j ≡ true → had_at p c t j ≤ p.lo j
    lo_most zero j m a k = omega (arith, had_zero j (room j a).0)
    lo_most (suc t) j m a k =
        let mt : is_hi (mode_at p c t) ≡ false = lo_earlier t (suc t) (omega arith) m in
        let one : 1 ≤ j = (room j a).0 in
        split (eqb (slot_at p c t) j)
        (λ e.
        let z : slot_at p c t ≡ j = eqb-true (slot_at p c t) j e in
        omega (arith, had_slot t j one z, lo_bound_hi t j mt a k (slot_e t j one z).2))
        (λ e. omega (arith, had_other t j one (eqb-false (slot_at p c t) j e), lo_most t j mt a k))
