-- The jobs, line by line.
--   ones_sum            == the number of HI jobs, as a sum
--   jobs_from           == the form of what is left of the jobs from place i on
--   jobs_whole, jobs_first, jobs_none   == it is the section's own form at first; it begins with the job at place i; nothing is left at the end
-- Assumes nothing.
use Prim.Native.Nat.{ℕ, suc, ◌+◌, ◌-◌, ◌≤◌, ◌<◌}
use mathlib.Core.Path.{◌≡◌, refl, ap}
use mathlib.Core.List.{List, [], ◌∷◌, ◌++◌}
use native.Mathlib.Omega.{arith}
use lib.ListN.{length}
use Rattle.std.proofs.lemmas.List.Sums.{sum_by-cons}
use Rattle.std.specs.List.{sum_by}
use Rattle.model.specs.declared.Job.{Job}
use Rattle.model.specs.Texts.{level_number, ones}
use Rattle.forms.specs.Forms.{Form, row, job_limits, job_of, jobs}
use Rattle.forms.proofs.Sections.{level_most}

pub ones_sum : (js : List Job) → ones js ≡ sum_by (λ j. level_number j.level) js
unfolding ones
ones_sum [] = refl
ones_sum (j ∷ js) = omega (arith, ones_sum js, sum_by-cons (λ (j : Job). level_number j.level) j js)

pub ones_most : (js : List Job) → ones js ≤ length js
unfolding ones
ones_most [] = omega arith
ones_most (j ∷ js) = omega (arith, level_most j.level, ones_most js)

abbrev pub jobs_from : ℕ → ℕ → List Job → (List Job → Form) → Form
jobs_from n i l k = jobs (n - i) l k

module _ (n : ℕ) where
  pub jobs_whole : (k : List Job → Form) → jobs n [] k ≡ jobs_from n 0 [] k
  jobs_whole k = let e : n ≡ n - 0 = omega arith in ap (λ j. jobs j [] k) e

  pub jobs_none : (l : List Job) (k : List Job → Form) → jobs_from n n l k ≡ k l
  unfolding jobs
  jobs_none l k = let e : n - n ≡ 0 = omega arith in ap (λ j. jobs j l k) e

  pub jobs_first : (i : ℕ) → i < n → (l : List Job) (k : List Job → Form)
      → jobs_from n i l k ≡ row job_limits [] (λ v. jobs_from n (i + 1) (l ++ (job_of v ∷ [])) k)
  unfolding jobs
  jobs_first i h l k = let e : n - i ≡ suc (n - (i + 1)) = omega arith in ap (λ j. jobs j l k) e
