-- The three sections, in a form and in a text.
--   job_lines js    == the lines of the jobs js
--   UpTo l          == each number of l is at most 65,535
--   ..-sane, ..-scan, ..-read   == as for lines
--   plan_sane       == the form of a plan text is sane
-- Assumes nothing.
use Prim.Native.Nat.{ℕ, zero, suc, ◌≤◌, max}
use mathlib.Core.Path.{◌≡◌, refl, sym, ◌∙◌, ap, subst}
use mathlib.Core.List.{List, [], ◌∷◌, ◌++◌, flat_map, append_assoc, append-nil}
use mathlib.Core.Logic.{◌↔◌}
use native.Mathlib.Omega.{arith}
use lib.Dec.{eqb}
use lib.ListN.{length, replicate, length-replicate}
use Rattle.model.specs.declared.Level.{Level}
use Rattle.model.specs.declared.Level.TheVariants.{Lo, Hi}
use Rattle.model.specs.declared.Job.{Job}
use Rattle.model.specs.declared.Set.{Set}
use Rattle.model.specs.Lists.{largest}
use Rattle.model.specs.Sets.{job}
use Rattle.model.specs.Texts.{line, order_line, level_number, job_numbers, ones}
use Rattle.forms.specs.Forms.{lf, Form, read, scan, count, row, job_limits, level_of, job_of, jobs, order, sections, plan}
use Rattle.laws.proofs.Bools.{tests, split}
use Rattle.forms.proofs.Scans.{Range, Sane}
use Rattle.forms.proofs.Lines.{bytes_sane, count-scan, count-read, Within, row_sane, order_line_lem, row-scan, row_read}

unfoldable pub job_lines : List Job → List ℕ
job_lines js = flat_map (λ j. line (job_numbers j)) js

unfoldable pub UpTo : List ℕ → Type 0
UpTo l = largest (λ x. x) l ≤ 65535

largest-append : (l m : List ℕ) → largest (λ x. x) (l ++ m) ≡ max (largest (λ x. x) l) (largest (λ x. x) m)
unfolding largest
largest-append [] m = omega arith
largest-append (x ∷ l) m = omega (arith, largest-append l m)

pub UpTo-append : (l m : List ℕ) → UpTo (l ++ m) ↔ (UpTo l × UpTo m)
unfolding UpTo
UpTo-append l m = (λ h. omega (arith, largest-append l m), λ h. omega (arith, largest-append l m))

-- one job ----------------------------------------------------------------------------------------------------------------------------

pub level_back : (l : Level) → level_of (level_number l) ≡ l
unfolding level_of level_number
level_back Lo = refl
level_back Hi = refl

pub job_back : (j : Job) → job_of (job_numbers j) ≡ j
unfolding job_of job_numbers job
job_back j = ap (λ l. job j.arrival j.deadline l j.lo j.hi) (level_back j.level)

pub level_most : (l : Level) → level_number l ≤ 1
unfolding level_number
level_most Lo = omega arith
level_most Hi = omega arith

job-within : (j : Job) → UpTo (job_numbers j) → Within (job_numbers j) job_limits
unfolding UpTo largest job_numbers job_limits Within
job-within j h = (omega arith, (omega arith, (level_most j.level, (omega arith, (omega arith, tt)))))

number_back : (n : ℕ) → n ≤ 1 → level_number (level_of n) ≡ n
unfolding level_of level_number
number_back n h = split (eqb n 0) (λ e. rw e (omega (tests, e))) (λ e. rw e (omega (tests, e)))

-- the numbers of a job's line, and no others, are the numbers of a job
job_numbers_lem : (xs : List ℕ) → Within xs job_limits → (job_numbers (job_of xs) ≡ xs) × UpTo xs
unfolding Within job_limits job_numbers job_of job UpTo largest
job_numbers_lem [] w = absurd w
job_numbers_lem (a ∷ []) w = absurd w.1
job_numbers_lem (a ∷ d ∷ []) w = absurd w.1.1
job_numbers_lem (a ∷ d ∷ l ∷ []) w = absurd w.1.1.1
job_numbers_lem (a ∷ d ∷ l ∷ lo ∷ []) w = absurd w.1.1.1.1
job_numbers_lem (a ∷ d ∷ l ∷ lo ∷ hi ∷ []) w = (ap (λ x. a ∷ d ∷ x ∷ lo ∷ hi ∷ []) (number_back l w.1.1.0), omega arith)
job_numbers_lem (a ∷ d ∷ l ∷ lo ∷ hi ∷ x ∷ xs) w = absurd w.1.1.1.1.1

-- jobs -------------------------------------------------------------------------------------------------------------------------------

pub jobs_sane : (n : ℕ) (js : List Job) (k : List Job → Form) → ((x : List Job) → Sane (k x)) → Sane (jobs n js k)
unfolding jobs
jobs_sane zero js k g = g js
jobs_sane (suc n) js k g =
    row_sane job_limits [] (λ l. jobs n (js ++ (job_of l ∷ [])) k) (λ l. jobs_sane n (js ++ (job_of l ∷ [])) k g)

job_line_lem : (j : Job) (xs : List Job) (t : List ℕ) → job_lines (j ∷ xs) ++ t ≡ order_line (job_numbers j) ++ (job_lines xs ++ t)
unfolding job_lines flat_map job_numbers
job_line_lem j xs t =
    append_assoc (line (job_numbers j)) (job_lines xs) t
    ∙ ap (λ z. z ++ (job_lines xs ++ t)) (sym (order_line_lem j.arrival (j.deadline ∷ level_number j.level ∷ j.lo ∷ j.hi ∷ [])))

pub UpTo-job : (j : Job) (xs : List Job) → UpTo (flat_map job_numbers (j ∷ xs)) ↔ (UpTo (job_numbers j) × UpTo (flat_map job_numbers xs))
unfolding flat_map
UpTo-job j xs = UpTo-append (job_numbers j) (flat_map job_numbers xs)

pub jobs-scan : (n : ℕ) (js xs : List Job) (k : List Job → Form) (t : List ℕ) → length xs ≡ n → UpTo (flat_map job_numbers xs)
    → scan (jobs n js k) (job_lines xs ++ t) ≡ scan (k (js ++ xs)) t
unfolding jobs
jobs-scan zero js [] k t e h = unfold job_lines flat_map in ap (λ y. scan (k y) t) (sym (append-nil js))
jobs-scan zero js (j ∷ xs) k t e h = absurd (omega arith)
jobs-scan (suc n) js [] k t e h = absurd (omega arith)
jobs-scan (suc n) js (j ∷ xs) k t e h =
    let b = (UpTo-job j xs).0 h in
    ap (scan (jobs (suc n) js k)) (job_line_lem j xs t)
    ∙ row-scan job_limits [] (job_numbers j) (λ l. jobs n (js ++ (job_of l ∷ [])) k) (job_lines xs ++ t) (job-within j b.0)
    ∙ ap (λ i. scan (jobs n (js ++ (i ∷ [])) k) (job_lines xs ++ t)) (job_back j)
    ∙ jobs-scan n (js ++ (j ∷ [])) xs k t (omega arith) b.1
    ∙ ap (λ y. scan (k y) t) (append_assoc js (j ∷ []) xs)

pub jobs-read : (n : ℕ) (js : List Job) (k : List Job → Form) (t : List ℕ) (s : Set) → scan (jobs n js k) t ≡ read s
    → (xs : List Job) × (u : List ℕ) × (length xs ≡ n) × UpTo (flat_map job_numbers xs) × (t ≡ job_lines xs ++ u)
    × (scan (k (js ++ xs)) u ≡ read s)
unfolding jobs
jobs-read zero js k t s h =
    unfold job_lines flat_map UpTo largest in ([], t, refl, omega arith, refl, ap (λ y. scan (k y) t) (append-nil js) ∙ h)
jobs-read (suc n) js k t s h =
    let r = row_read job_limits [] (λ l. jobs n (js ++ (job_of l ∷ [])) k) t s h in
    let j = job_of r.0 in
    let w = job_numbers_lem r.0 r.2 in
    let q = jobs-read n (js ++ (j ∷ [])) k r.1 s r.4 in (
      j ∷ q.0,
      q.1,
      ap suc q.2,
      (UpTo-job j q.0).1 (subst UpTo (sym w.0) w.1, q.3),
      r.3 ∙ ap (λ z. order_line z ++ r.1) (sym w.0) ∙ ap (λ z. order_line (job_numbers j) ++ z) q.4 ∙ sym (job_line_lem j q.0 q.1),
      ap (λ y. scan (k y) q.1) (sym (append_assoc js (j ∷ []) q.0)) ∙ q.5,
    )

-- orders -----------------------------------------------------------------------------------------------------------------------------

UpTo-Within : (xs : List ℕ) → Within xs (replicate (length xs) 65535) ↔ UpTo xs
unfolding Within UpTo largest
UpTo-Within [] = (λ w. omega arith, λ h. tt)
UpTo-Within (x ∷ xs) =
    let r = UpTo-Within xs in
    (λ w. omega (arith, r.0 w.1), λ h. (omega arith, r.1 (omega arith)))

within-length : (xs ms : List ℕ) → Within xs ms → length xs ≡ length ms
unfolding Within
within-length [] [] w = refl
within-length [] (m ∷ ms) w = absurd w
within-length (x ∷ xs) [] w = absurd w
within-length (x ∷ xs) (m ∷ ms) w = ap suc (within-length xs ms w.1)

pub order_sane : (n : ℕ) (k : List ℕ → Form) → ((x : List ℕ) → Sane (k x)) → Sane (order n k)
unfolding order count
order_sane n k g = bytes_sane _ _ (row_sane (replicate n 65535) [] k g)

pub order-scan : (n : ℕ) (xs : List ℕ) (k : List ℕ → Form) (t : List ℕ) → length xs ≡ n → UpTo xs
    → scan (order n k) (line (n ∷ []) ++ (order_line xs ++ t)) ≡ scan (k xs) t
unfolding order
order-scan n xs k t e h =
    count-scan n (row (replicate n 65535) [] k) (order_line xs ++ t)
    ∙ row-scan (replicate n 65535) [] xs k t (subst (λ i. Within xs (replicate i 65535)) e ((UpTo-Within xs).1 h))

pub order-read : (n : ℕ) (k : List ℕ → Form) (t : List ℕ) (s : Set) → scan (order n k) t ≡ read s
    → (xs : List ℕ) × (u : List ℕ) × (length xs ≡ n) × UpTo xs × (t ≡ line (n ∷ []) ++ (order_line xs ++ u)) × (scan (k xs) u ≡ read s)
unfolding order
order-read n k t s h =
    let c = count-read n (row (replicate n 65535) [] k) t s h in
    let r = row_read (replicate n 65535) [] k c.0 s c.2 in
    let e : length r.0 ≡ n = within-length r.0 (replicate n 65535) r.2 ∙ length-replicate n 65535 in (
      r.0,
      r.1,
      e,
      (UpTo-Within r.0).0 (subst (λ i. Within r.0 (replicate i 65535)) (sym e) r.2),
      c.1 ∙ ap (λ z. line (n ∷ []) ++ z) r.3,
      r.4,
    )

pub sections_sane : (n : ℕ) → Sane (sections n)
unfolding sections Sane
sections_sane n =
    jobs_sane n [] _ (λ js. order_sane n _ (λ lo. order_sane (ones js) _ (λ hi. tt)))

pub range-first : Range 1 64 lf
unfolding lf
range-first = record { low = omega arith; some = omega arith; behind = omega arith }

pub plan_sane : Sane plan
unfolding plan Sane
plan_sane = (range-first, sections_sane)
