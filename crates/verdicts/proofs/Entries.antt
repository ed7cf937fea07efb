-- What the view of a set that passes the checks says of job i + 1 stands at place i of the jobs that take part.
--   part_is, part_e    == who takes part
--   critical_is, deadline_is, lo_is, hi_is   == the level, the deadline and the budgets
--   few, some, sound   == it has 64 jobs at most, and one at least, and is sound
--   place_is           == so it is in a list with a place for each job
-- Assumes nothing.
use Prim.Native.Nat.{ℕ, suc, ◌≤◌, ◌<◌, min}
use mathlib.Core.Path.{◌≡◌, refl, sym, ◌∙◌, ap}
use mathlib.Core.Bool.{Bool, true, cond}
use mathlib.Core.List.{List}
use native.Mathlib.Omega.{arith}
use native.Mathlib.Numerals.{add-one}
use lib.Dec.{leb}
use lib.ListN.{get_or, take}
use Rattle.std.proofs.Common.{get_or-take}
use borrow.Author.Tests.{le-leb}
use denote.Enum.Bare.{sameb}
use Rattle.model.specs.contracts.Level.{the_type}
use Rattle.model.specs.declared.Level.{Level}
use Rattle.model.specs.declared.Level.TheVariants.{Lo, Hi}
use Rattle.model.specs.declared.Job.{Job}
use Rattle.model.specs.declared.Set.{Set}
use Rattle.model.specs.Sets.{is_hi, blank, job_at, view, critical}
use Rattle.model.specs.Scenarios.{places}
use Rattle.model.specs.Refusals.{is_good, refusal}
use Rattle.laws.proofs.Bools.{tests, and_i, and_l, and_r}
use Rattle.laws.proofs.Checks.{checks_pass, counts_right, passes_sound}
use Rattle.laws.proofs.Fill.{map_at}
use Rattle.laws.proofs.Members.{job_at_lem}
use Rattle.laws.proofs.Sound.{Sound}

-- what the code's comparison of levels says
same_hi : (l : Level) → sameb the_type l Hi ≡ is_hi l
unfolding is_hi
same_hi Lo = refl
same_hi Hi = refl

module _ (s : Set) where
  pub part_is : (i : ℕ) → i < s.count → (view s).policy.part (suc i) ≡ true
  unfolding view
  part_is i q = and_i (le-leb 1 (suc i) (omega arith)) (le-leb (suc i) s.count (omega arith))

  pub part_e : (j : ℕ) → (view s).policy.part j ≡ true → (1 ≤ j) × (j ≤ s.count)
  unfolding view
  part_e j a = (omega (tests, and_l (leb 1 j) (leb j s.count) a), omega (tests, and_r (leb 1 j) (leb j s.count) a))

-- l are the jobs that take part
module _ (s : Set) (l : List Job) (e : l ≡ take (min s.count 64) s.jobs) (i : ℕ) (q : i < min s.count 64) where
  job_is : get_or l i blank ≡ job_at s (suc i)
  job_is =
      ap (λ m. get_or m i blank) e ∙ get_or-take (min s.count 64) s.jobs i blank q ∙ sym (job_at_lem s i (omega arith)) ∙ ap (job_at s) (add-one i)

  pub critical_is : (b : Bool) → b ≡ sameb the_type (get_or l i blank).level Hi → b ≡ critical (view s).policy (suc i)
  unfolding view critical
  critical_is b d = d ∙ same_hi (get_or l i blank).level ∙ ap (λ (j : Job). is_hi j.level) job_is

  pub deadline_is : (get_or l i blank).deadline ≡ (view s).deadline (suc i)
  unfolding view
  deadline_is = ap (λ (j : Job). j.deadline) job_is

  pub lo_is : (get_or l i blank).lo ≡ (view s).policy.lo (suc i)
  unfolding view
  lo_is = ap (λ (j : Job). j.lo) job_is

  pub hi_is : (get_or l i blank).hi ≡ (view s).hi (suc i)
  unfolding view
  hi_is = ap (λ (j : Job). j.hi) job_is

module _ (s : Set) (g : is_good (refusal (view s)) ≡ true) where
  pub few : s.count ≤ 64
  unfolding view
  few = (counts_right (view s) (checks_pass (view s) g).count).1

  pub some : 1 ≤ s.count
  unfolding view
  some = (counts_right (view s) (checks_pass (view s) g).count).0

  pub sound : Sound (view s)
  sound = passes_sound s g

  pub place_is : (f : ℕ → ℕ) (i : ℕ) → i < s.count → get_or (places (view s) f) i 0 ≡ f (suc i)
  unfolding places
  place_is f i q = map_at (λ j. cond ((view s).policy.part j) (f j) 0) i 0 (omega (arith, few)) ∙ rw (part_is s i q) refl
