-- Laws on the jobs of a set that passes the checks, and on the chains over them.
--   good-count              == it has 1 to 64 jobs;  good-members: they are 1 to N
--   worst-at, deadline-at   == what the arrays hold for a job
--   lines_put, jobs_put     == what the chain over the jobs puts: their lines
--   rest_put, times_put     == what the chain over the running times puts: a line;  times_are: the times of the jobs, in job order
-- Assumes nothing.
use Rattle.std.specs.Prelude.{fold}
use Rattle.std.specs.List.{zip, enumerate_from}
use Rattle.std.proofs.lemmas.List.{get_or-take}
use Prim.Native.Nat.{ℕ, zero, suc, ◌+◌, ◌≤◌, ◌<◌}
use mathlib.Core.Path.{◌≡◌, refl, sym, ◌∙◌, ap}
use mathlib.Core.Bool.{true, cond}
use mathlib.Core.List.{List, [], ◌∷◌, map, flat_map}
use native.Mathlib.Omega.{arith}
use native.Mathlib.Numerals.{add-one}
use lib.ListN.{length, get_or, take, drop}
use lib.Seq.{drop-cons}
use borrow.Author.Tests.{le-leb}
use Rattle.model.specs.declared.Job.{Job}
use Rattle.model.specs.declared.Set.{Set}
use Rattle.model.specs.Lists.{at, from, numbers}
use Rattle.model.specs.Sets.{View, view, members, blank}
use Rattle.model.specs.Refusals.{is_good, refusal}
use Rattle.model.specs.Scenarios.{places, worst}
use Rattle.model.specs.Answers.{unless, worsts}
use Rattle.model.specs.Texts.{decimal, line}
use Rattle.laws.proofs.Bools.{and_i}
use Rattle.laws.proofs.Sums.{get_or-from}
use Rattle.laws.proofs.Members.{job_at_lem, members_are}
use Rattle.laws.proofs.Places.{at_suc}
use Rattle.laws.proofs.Checks.{checks_pass, counts_right}
use Rattle.pages.specs.declared.Page.{Page}
use Rattle.pages.specs.Pages.{put}
use Rattle.pages.proofs.Puts.{put-append}
use Rattle.pages.specs.Lines.{rest, job_line}
use Rattle.printing.specs.Lines.{job_lines}
use Rattle.pages.proofs.LineLaws.{put_first}

place_at : (v : View) (f : ℕ → ℕ) (i : ℕ) → i < 64 → v.policy.part (1 + i) ≡ true → get_or (places v f) i 0 ≡ f (i + 1)
unfolding places numbers
place_at v f i h p = get_or-from (λ j. cond (v.policy.part j) (f j) 0) 1 64 i 0 h ∙ rw p (ap f (omega arith))

module _ (s : Set) (g : is_good (refusal (view s)) ≡ true) where
  pub good-count : (1 ≤ s.count) × (s.count ≤ 64)
  unfolding view
  good-count = let r = counts_right (view s) (checks_pass (view s) g).count in (r.0, r.1)

  pub good-members : members (view s).policy ≡ from 1 s.count
  good-members = members_are s ∙ ap (from 1) (omega (arith, good-count))

  takes_part : (i : ℕ) → i < s.count → (view s).policy.part (1 + i) ≡ true
  unfolding view
  takes_part i h = and_i (le-leb 1 (1 + i) (omega arith)) (le-leb (1 + i) s.count (omega arith))

  pub worst-at : (i : ℕ) → i < s.count → get_or (worsts (view s)) i 0 ≡ worst (view s) (i + 1)
  unfolding worsts unless
  worst-at i h = rw g (place_at (view s) (worst (view s)) i (omega (arith, good-count)) (takes_part i h))

pub deadline-at : (s : Set) (i : ℕ) → i < s.count → (get_or s.jobs i blank).deadline ≡ (view s).deadline (i + 1)
unfolding view
deadline-at s i h = ap (λ j. j.deadline) (sym (job_at_lem s i h))

-- the lines of the jobs ------------------------------------------------------------------------------------------------------------------

-- what the chain over the jobs puts at a turn: the line of the job at place i, with its worst finish w
abbrev pub one_line : Page → ℕ × (Job × ℕ) → Page
one_line p (i, (j, w)) = put p (job_line (i + 1) w j.deadline)

pub lines_put : (f g : ℕ → ℕ) (i : ℕ) (l : List Job) (c : List ℕ) (p : Page) → length l ≤ length c
    → ((k j : ℕ) → k < length l → j ≡ k + suc i → (get_or c k 0 ≡ f j) × ((get_or l k blank).deadline ≡ g j))
    → fold one_line p (enumerate_from i (zip l c)) ≡ put p (flat_map (λ j. job_line j (f j) (g j)) (from (suc i) (length l)))
unfolding from flat_map put
lines_put f g i [] c p h e = refl
lines_put f g i (x ∷ l) [] p h e = absurd (omega arith)
lines_put f g i (x ∷ l) (w ∷ c) p h e =
    let a = e 0 (suc i) (omega arith) (omega arith) in
    let b : w ≡ f (suc i) = a.0 in
    let d : x.deadline ≡ g (suc i) = a.1 in
    lines_put f g (i + 1) l c (one_line p (i, (x, w))) (omega arith) (λ k j m n. e (suc k) j (omega arith) (omega arith))
    ∙ put-append p (job_line (i + 1) w x.deadline) (flat_map (λ j. job_line j (f j) (g j)) (from (suc (i + 1)) (length l)))
    ∙ rw (add-one i, b, d) refl

pub jobs_put : (s : Set) → is_good (refusal (view s)) ≡ true → length (take s.count s.jobs) ≡ s.count → (w : List ℕ) → w ≡ worsts (view s) → length w ≡ 64
    → (p : Page) → fold one_line p (enumerate_from 0 (zip (take s.count s.jobs) w)) ≡ put p (job_lines (view s) (members (view s).policy))
unfolding job_lines
jobs_put s g a w e b p =
    let n = good-count s g in
    lines_put (worst (view s)) (view s).deadline 0 (take s.count s.jobs) w p (omega arith)
    (λ k j h q.
    let r : j ≡ k + 1 = omega arith in
    let t : k < s.count = omega arith in (
      ap (λ l. get_or l k 0) e ∙ worst-at s g k t ∙ ap (worst (view s)) (sym r),
      ap (λ (x : Job). x.deadline) (get_or-take s.count s.jobs k blank t) ∙ deadline-at s k t ∙ ap (view s).deadline (sym r),
    ))
    ∙ ap (λ n. put p (job_lines (view s) (from 1 n))) a
    ∙ ap (λ l. put p (job_lines (view s) l)) (sym (good-members s g))

-- the running times ----------------------------------------------------------------------------------------------------------------------

-- what the chain over the running times puts, and the LF behind it
pub rest_put : (p : Page) (l : List ℕ) → put (fold (λ q t. put q (32 ∷ decimal t)) p l) (10 ∷ []) ≡ put p (rest (map decimal l))
unfolding rest
rest_put p [] = refl
rest_put p (x ∷ l) = rest_put (put p (32 ∷ decimal x)) l ∙ put-append p (32 ∷ decimal x) (rest (map decimal l))

pub times_put : (p : Page) (x : ℕ) (l : List ℕ) → put (fold (λ q t. put q (32 ∷ decimal t)) (put p (decimal x)) l) (10 ∷ []) ≡ put p (line (x ∷ l))
unfolding line
times_put p x l = rest_put (put p (decimal x)) l ∙ put_first p (put p (decimal x)) (decimal x) (map decimal l) refl

-- the first n places of a list, one by one
places_are : (l : List ℕ) (i n : ℕ) → i + n ≤ length l → map (λ j. at l j 0) (from (suc i) n) ≡ take n (drop i l)
unfolding from
places_are l i zero h = refl
places_are l i (suc n) h =
    rw (at_suc l i 0, drop-cons l i 0 (omega arith)) (ap (λ m. get_or l i 0 ∷ m) (places_are l (suc i) n (omega arith)))

pub times_are : (s : Set) → is_good (refusal (view s)) ≡ true → (c : List ℕ) → length c ≡ 64
    → take s.count c ≡ map (λ j. at c j 0) (members (view s).policy)
times_are s g c h =
    sym (places_are c 0 s.count (omega (arith, good-count s g))) ∙ ap (map (λ j. at c j 0)) (sym (good-members s g))
