-- The jobs and the orders of a set as a loop meets them: places in an array, one after the other.
--   cut_at        == before the cut, a cut list holds what the list holds
--   job_at_lem    == job i + 1 stands at place i
--   members_are   == the members are the numbers 1 to N, at most 64 of them
--   hi_jobs_most  == at most 64 jobs are HI jobs
-- Assumes nothing.
use Prim.Native.Nat.{ℕ, zero, suc, ◌+◌, ◌-◌, ◌≤◌, ◌<◌, min}
use mathlib.Core.Path.{◌≡◌, refl, ◌∙◌, ap}
use mathlib.Core.Bool.{◌&&◌}
use mathlib.Core.List.{List, [], ◌∷◌}
use native.Mathlib.Omega.{arith}
use lib.Dec.{leb}
use lib.ListN.{length, get_or}
use borrow.Author.Tests.{le-leb}
use Rattle.model.specs.declared.Set.{Set}
use Rattle.model.specs.Lists.{from, numbers, only, cut}
use Rattle.model.specs.Sets.{View, blank, job_at, view, members, critical}
use Rattle.model.specs.Scenarios.{hi_jobs}
use Rattle.laws.proofs.Bools.{tests, split}
use Rattle.laws.proofs.Places.{at_in}
use Rattle.laws.proofs.Pigeonhole.{length_from, only_most}

pub cut_at {ℓ} : {A : Type ℓ} (d : A) (n : ℕ) (l : List A) (i : ℕ) → i < n → get_or (cut d n l) i d ≡ get_or l i d
unfolding cut
cut_at d zero l i h = absurd (omega arith)
cut_at d (suc n) [] zero h = refl
cut_at d (suc n) [] (suc i) h = cut_at d n [] i (omega arith)
cut_at d (suc n) (x ∷ l) zero h = refl
cut_at d (suc n) (x ∷ l) (suc i) h = cut_at d n l i (omega arith)

pub job_at_lem : (s : Set) (i : ℕ) → i < s.count → job_at s (i + 1) ≡ get_or s.jobs i blank
unfolding job_at
job_at_lem s i h =
    at_in (cut blank s.count s.jobs) (i + 1) blank (omega arith)
    ∙ ap (λ k. get_or (cut blank s.count s.jobs) k blank) (omega arith)
    ∙ cut_at blank s.count s.jobs i h

only_below : (N k n : ℕ) → 1 ≤ k → only (λ j. leb 1 j && leb j N) (from k n) ≡ from k (min (suc N - k) n)
unfolding from only
only_below N k zero h = let e : min (suc N - k) 0 ≡ 0 = omega arith in rw e
only_below N k (suc n) h =
    split (leb k N)
    (λ p.
    let e : min (suc N - k) (suc n) ≡ suc (min (suc N - suc k) n) = omega (tests, p) in
    rw (le-leb 1 k h, p, e) (ap (λ l. k ∷ l) (only_below N (suc k) n (omega arith))))
    (λ p.
    let e : min (suc N - k) (suc n) ≡ 0 = omega (tests, p) in
    let f : min (suc N - suc k) n ≡ 0 = omega (tests, p) in
    rw (le-leb 1 k h, p, e) (only_below N (suc k) n (omega arith) ∙ ap (from (suc k)) f))

pub members_are : (s : Set) → members (view s).policy ≡ from 1 (min s.count 64)
unfolding members numbers view
members_are s = only_below s.count 1 64 (omega arith) ∙ ap (λ n. from 1 (min n 64)) (omega arith)

-- how many there are
pub hi_jobs_most : (v : View) → length (hi_jobs v) ≤ 64
unfolding hi_jobs members numbers
hi_jobs_most v =
    omega (
      arith,
      only_most (critical v.policy) (only v.policy.part (from 1 64)),
      only_most v.policy.part (from 1 64),
      length_from 1 64,
    )
