-- A finish is the first instant, at or after the arrival, at which the job has had its time.
--   finish_le      == a job that has had its time by t finishes by t
--   finish-done    == at its finish it has arrived and has had its time
--   finish-before  == before its finish it has not;  finish_pos, finish-none: a time from 1 up
--   finish-same    == it does not change as more instants are looked at;  finish_now: who has its time first at t + 1 finishes there
-- Assumes nothing.
use Prim.Native.Nat.{ℕ, suc, ◌≤◌, ◌<◌}
use mathlib.Core.Path.{◌≡◌, sym, ◌∙◌, subst}
use mathlib.Core.Bool.{true, ◌&&◌}
use mathlib.Core.List.{List}
use native.Mathlib.Omega.{arith}
use lib.Dec.{eqb, leb}
use borrow.Author.Tests.{eqb-true, eqb-false, eq-eqb, le-leb, leb-true}
use Rattle.model.specs.Sets.{Policy}
use Rattle.model.specs.Runs.{time, had_at, done_at, finish_of}
use Rattle.laws.proofs.Bools.{tests, split, clash, and_l, and_r, and_i}
use Rattle.laws.proofs.Lists.{least-before, least_passes, least_bound}
use Rattle.laws.proofs.Places.{Placed}
use Rattle.laws.proofs.Runs as Run

module _ (p : Policy) (c : List ℕ) (room : Placed p) (n j : ℕ) (a : p.part j ≡ true) where
  pub finish_le : (t : ℕ) → t ≤ n → p.arrival j ≤ t → time c j ≤ had_at p c t j → finish_of p c n j ≤ t
  unfolding finish_of
  finish_le t q r h =
      least_bound (λ u. leb (p.arrival j) u && done_at p c u j) (suc n) t (omega arith)
      (and_i (le-leb (p.arrival j) t r)
      (Run.done_is p c room t j a ∙ eq-eqb (had_at p c t j) (time c j) (omega (arith, Run.had_le p c room t j a))))

  pub finish-done : finish_of p c n j ≤ n → (p.arrival j ≤ finish_of p c n j) × (had_at p c (finish_of p c n j) j ≡ time c j)
  unfolding finish_of
  finish-done q =
      let f : ℕ = finish_of p c n j in
      let h : (leb (p.arrival j) f && done_at p c f j) ≡ true =
      least_passes (λ u. leb (p.arrival j) u && done_at p c u j) (suc n) (omega arith) in (
        leb-true (p.arrival j) f (and_l (leb (p.arrival j) f) (done_at p c f j) h),
        eqb-true (had_at p c f j) (time c j) (sym (Run.done_is p c room f j a) ∙ and_r (leb (p.arrival j) f) (done_at p c f j) h),
      )

  pub finish-before : (t : ℕ) → t < finish_of p c n j → 1 ≤ time c j → had_at p c t j < time c j
  unfolding finish_of
  finish-before t q one =
      split (leb (p.arrival j) t)
      (λ r.
      split (eqb (had_at p c t j) (time c j))
      (λ e.
      clash (and_i r (Run.done_is p c room t j a ∙ e))
      (least-before (λ u. leb (p.arrival j) u && done_at p c u j) (suc n) t q))
      (λ e.
      let ne : had_at p c t j ≡ time c j → ⊥ = eqb-false (had_at p c t j) (time c j) e in
      omega (arith, ne, Run.had_le p c room t j a)))
      (λ r. omega (tests, r, one, Run.had_early p c room t j (room j a).0 (omega (tests, r))))

  pub finish_pos : 1 ≤ time c j → finish_of p c n j ≤ n → 1 ≤ finish_of p c n j
  finish_pos one q =
      let f : ℕ = finish_of p c n j in
      split (eqb f 0)
      (λ z.
      let had : had_at p c 0 j ≡ time c j = subst (λ t. had_at p c t j ≡ time c j) (eqb-true f 0 z) (finish-done q).1 in
      absurd (omega (arith, had, one, Run.had_zero p c j (room j a).0)))
      (λ z. let nz : f ≡ 0 → ⊥ = eqb-false f 0 z in omega (arith, nz))

  -- who has had its time of at least 1 by t has finished by t
  pub finish-none : (t : ℕ) → 1 ≤ time c j → t ≤ n → had_at p c t j ≡ time c j → finish_of p c n j ≤ t
  finish-none t one q h =
      split (leb (finish_of p c n j) t) (λ r. omega (tests, r)) (λ r. absurd (omega (tests, r, finish-before t (omega (tests, r)) one)))

-- the finish does not change as more instants are looked at
pub finish-same : (p : Policy) (c : List ℕ) (room : Placed p) (j : ℕ) → p.part j ≡ true → 1 ≤ time c j → (m n : ℕ)
    → had_at p c m j ≡ time c j → m ≤ n → finish_of p c n j ≡ finish_of p c m j
finish-same p c room j a one m n h q =
    let by-m : finish_of p c m j ≤ m = finish-none p c room m j a m one (omega arith) h in
    let by_n : finish_of p c n j ≤ m = finish-none p c room n j a m one q h in
    omega (
      arith,
      finish-none p c room m j a (finish_of p c n j) one by_n (finish-done p c room n j a (omega arith)).1,
      finish-none p c room n j a (finish_of p c m j) one (omega arith) (finish-done p c room m j a by-m).1,
    )

-- who has its time at t + 1 and not at t finishes at t + 1
pub finish_now : (p : Policy) (c : List ℕ) (room : Placed p) (j : ℕ) → p.part j ≡ true → 1 ≤ time c j → (t n : ℕ)
    → had_at p c t j < time c j → had_at p c (suc t) j ≡ time c j → t < n → finish_of p c n j ≡ suc t
finish_now p c room j a one t n l h q =
    let by : finish_of p c n j ≤ suc t = finish-none p c room n j a (suc t) one q h in
    split (leb (finish_of p c n j) t)
    (λ b.
    absurd
    (omega (
      tests,
      l,
      (finish-done p c room n j a (omega arith)).1,
      Run.had-later p c room (finish_of p c n j) t j (room j a).0 (omega (tests, b)),
    )))
    (λ b. omega (tests, b, by))
