-- The jobs of a set that have a place, as the list of them: what the model says of each number that takes part is what is said of each job of the list.
--   job_of_jobs       == job i + 1 of the set is that at place i of the list
--   total_of_jobs, largest_of_jobs  == a sum over those numbers, and the largest, is that over the list
--   count_of_jobs, first_of_jobs    == how many of them pass a test, and the first that does, are those of the list
-- Assumes nothing.
use Prim.Native.Nat.{ℕ, zero, suc, ◌+◌, ◌<◌, ◌≤◌, min, max}
use mathlib.Core.Path.{◌≡◌, refl, sym, ◌∙◌, ap}
use mathlib.Core.Bool.{Bool}
use mathlib.Core.List.{List, [], ◌∷◌, map}
use native.Mathlib.Numerals.{add-one}
use native.Mathlib.Omega.{arith}
use lib.ListN.{length, get_or, take, drop}
use lib.Seq.{drop-cons}
use Rattle.std.specs.List.{fold, sum_by, count_by, filter, position_from}
use Rattle.std.specs.Option.{option_map}
use Rattle.std.proofs.lemmas.List.{length-take, get_or-take}
use Rattle.std.proofs.lemmas.List.Sums.{sum_by-cons, length-filter}
use Rattle.model.specs.declared.Job.{Job}
use Rattle.model.specs.declared.Set.{Set}
use Rattle.model.specs.Lists.{from, only, first, total, largest}
use Rattle.model.specs.Sets.{view, members, job_at, blank}
use Rattle.rules.specs.Rules.{nonzero}
use Rattle.laws.proofs.Bools.{split}
use Rattle.laws.proofs.Members.{job_at_lem, members_are}

jobs_from : (s : Set) (k n : ℕ) → k + n ≤ s.count → k + n ≤ length s.jobs → map (job_at s) (from (suc k) n) ≡ take n (drop k s.jobs)
unfolding from
jobs_from s k zero h g = refl
jobs_from s k (suc n) h g =
    rw (drop-cons s.jobs k blank (omega arith), jobs_from s (suc k) n (omega arith) (omega arith))
    (ap (λ x. x ∷ take n (drop (suc k) s.jobs)) (ap (job_at s) (sym (add-one k)) ∙ job_at_lem s k (omega arith)))

total_map : (f : Job → ℕ) (g : ℕ → Job) (l : List ℕ) → total (λ j. f (g j)) l ≡ sum_by f (map g l)
unfolding total
total_map f g [] = refl
total_map f g (j ∷ l) = rw (sum_by-cons f (g j) (map g l), total_map f g l) refl

largest_map : (f : Job → ℕ) (g : ℕ → Job) (a : ℕ) (l : List ℕ) → fold (λ b x. max b (f x)) a (map g l) ≡ max a (largest (λ j. f (g j)) l)
unfolding largest
largest_map f g a [] = omega arith
largest_map f g a (j ∷ l) = largest_map f g (max a (f (g j))) l ∙ omega arith

count_map : (p : Job → Bool) (g : ℕ → Job) (l : List ℕ) → length (only (λ j. p (g j)) l) ≡ length (filter p (map g l))
unfolding only
count_map p g [] = refl
count_map p g (j ∷ l) = split (p (g j)) (λ t. rw (t, count_map p g l) refl) (λ f. rw (f, count_map p g l) refl)

first_from : (p : Job → Bool) (g : ℕ → Job) (k n : ℕ)
    → nonzero (first (λ j. p (g j)) (from (suc k) n)) ≡ option_map (λ i. i + 1) (position_from p k (map g (from (suc k) n)))
unfolding nonzero first from
first_from p g k zero = refl
first_from p g k (suc n) = split (p (g (suc k))) (λ t. rw (t, add-one) refl) (λ f. rw f (first_from p g (suc k) n ∙ rw add-one refl))

-- l is what `members` lends of the set
module _ (s : Set) (l : List Job) (jobs : l ≡ take (min s.count 64) s.jobs) (count : length l ≡ min s.count 64) where
  pub job_of_jobs : (i : ℕ) → i < length l → job_at s (i + 1) ≡ get_or l i blank
  job_of_jobs i h = job_at_lem s i (omega arith) ∙ rw jobs (sym (get_or-take (min s.count 64) s.jobs i blank (omega arith)))

  jobs_are : map (job_at s) (from 1 (min s.count 64)) ≡ l
  jobs_are = jobs_from s 0 (min s.count 64) (omega arith) (omega (arith, count, ap length jobs, length-take (min s.count 64) s.jobs)) ∙ sym jobs

  members_are_jobs : map (job_at s) (members (view s).policy) ≡ l
  members_are_jobs = rw (members_are s) jobs_are

  pub total_of_jobs : (f : Job → ℕ) → total (λ j. f (job_at s j)) (members (view s).policy) ≡ sum_by f l
  total_of_jobs f = total_map f (job_at s) (members (view s).policy) ∙ ap (sum_by f) members_are_jobs

  pub largest_of_jobs : (f : Job → ℕ) → largest (λ j. f (job_at s j)) (members (view s).policy) ≡ fold (λ b x. max b (f x)) 0 l
  largest_of_jobs f =
      sym (largest_map f (job_at s) 0 (members (view s).policy) ∙ omega arith) ∙ ap (fold (λ b x. max b (f x)) 0) members_are_jobs

  pub count_of_jobs : (p : Job → Bool) → length (only (λ j. p (job_at s j)) (members (view s).policy)) ≡ count_by p l
  count_of_jobs p = count_map p (job_at s) (members (view s).policy) ∙ ap (λ m. length (filter p m)) members_are_jobs ∙ length-filter p l

  pub first_of_jobs : (p : Job → Bool) → nonzero (first (λ j. p (job_at s j)) (members (view s).policy)) ≡ option_map (λ i. i + 1) (position_from p 0 l)
  first_of_jobs p = rw (members_are s) (first_from p (job_at s) 0 (min s.count 64) ∙ ap (λ m. option_map (λ i. i + 1) (position_from p 0 m)) jobs_are)
