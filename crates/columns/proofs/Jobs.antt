-- A set's jobs, and how a loop fills its columns, job by job.
--   cut-take              == a list cut at n is its first n, where it has them
--   job_out               == beyond the count there is the blank job
--   columns_to s i        == a set's columns, filled up to job i
--   columns_zero, columns_more, columns_all   == before the first job, after one more, and after the last, when they are the set's
-- Assumes nothing.
use Prim.Native.Nat.{ℕ, zero, suc, ◌+◌, ◌≤◌, ◌<◌, min}
use mathlib.Core.Path.{◌≡◌, refl, sym, ◌∙◌, ap}
use mathlib.Core.Bool.{Bool, false, cond, ◌&&◌}
use mathlib.Core.List.{List, [], ◌∷◌, map}
use native.Mathlib.Omega.{arith}
use native.Mathlib.Numerals.{add-one}
use lib.Dec.{eqb, leb}
use lib.ListN.{length, get_or, take, set, replicate}
use borrow.Author.Tests.{le-leb, lt-leb}
use Rattle.model.specs.declared.Job.{Job}
use Rattle.model.specs.declared.Set.{Set}
use Rattle.columns.specs.declared.Columns.{Columns}
use Rattle.model.specs.declared.Level.{Level}
use Rattle.model.specs.declared.Level.TheVariants.{Lo, Hi}
use Rattle.model.specs.contracts.Level.{the_type}
use denote.Enum.Bare.{sameb}
use Rattle.model.specs.Lists.{at, numbers, cut}
use Rattle.model.specs.Sets.{is_hi, blank, job, job_at, view, critical}
use Rattle.model.specs.Scenarios.{places}
use Rattle.laws.proofs.Bools.{tests, split, clash, and_i, and_no_r}
use Rattle.laws.proofs.Pigeonhole.{length_cut}
use Rattle.laws.proofs.Places.{at_out, get_d_any}
use Rattle.laws.proofs.Fill.{map_same, up_to, up_to_zero, up_to-more, up_to-end, up_to-places}
use Rattle.rules.proofs.Members.{job_of_jobs}
use Rattle.columns.specs.Columns.{columns_of}

pub cut-take {ℓ} : {A : Type ℓ} (d : A) (n : ℕ) (l : List A) → n ≤ length l → cut d n l ≡ take n l
unfolding cut
cut-take d zero l h = refl
cut-take d (suc n) [] h = absurd (omega arith)
cut-take d (suc n) (x ∷ l) h = ap (λ m. x ∷ m) (cut-take d n l (omega arith))

pub job_out : (s : Set) (j : ℕ) → (leb 1 j && leb j s.count) ≡ false → job_at s j ≡ blank
unfolding job_at at
job_out s j h =
    split (eqb j 0) (λ z. rw z refl)
    (λ z.
    split (leb j s.count)
    (λ q. clash (and_i (le-leb 1 j (omega (tests, z))) q) h)
    (λ q. at_out (cut blank s.count s.jobs) j blank (omega (tests, q, length_cut blank s.count s.jobs))))

-- a set's columns, filled up to job i
unfoldable pub columns_to : Set → ℕ → Columns
columns_to s i =
    record {
      n = s.count;
      m = s.hi.count;
      arrivals = up_to i (λ j. (job_at s j).arrival) 0;
      deadlines = up_to i (λ j. (job_at s j).deadline) 0;
      critical = up_to i (λ j. is_hi (job_at s j).level) false;
      lo = up_to i (λ j. (job_at s j).lo) 0;
      hi = up_to i (λ j. (job_at s j).hi) 0;
      lo_order = s.lo.entries;
      hi_order = s.hi.entries;
    }

-- columns, with job i + 1 put in
abbrev pub with_job : Columns → ℕ → Job → Bool → Columns
with_job k i j b =
    record k {
      arrivals = set k.arrivals i j.arrival;
      deadlines = set k.deadlines i j.deadline;
      critical = set k.critical i b;
      lo = set k.lo i j.lo;
      hi = set k.hi i j.hi;
    }

-- the test `== Level::Hi`
is-hi : (l : Level) → sameb the_type l Hi ≡ is_hi l
unfolding is_hi
is-hi Lo = refl
is-hi Hi = refl

-- a set's columns before the first job
abbrev pub blank_columns : Set → Columns
blank_columns s =
    record {
      n = s.count;
      m = s.hi.count;
      arrivals = replicate 64 0;
      deadlines = replicate 64 0;
      critical = replicate 64 false;
      lo = replicate 64 0;
      hi = replicate 64 0;
      lo_order = s.lo.entries;
      hi_order = s.hi.entries;
    }

module _ (s : Set) where
  pub columns_zero : blank_columns s ≡ columns_to s 0
  unfolding columns_to
  columns_zero =
      rw (
        up_to_zero (λ j. (job_at s j).arrival) 0,
        up_to_zero (λ j. (job_at s j).deadline) 0,
        up_to_zero (λ j. is_hi (job_at s j).level) false,
        up_to_zero (λ j. (job_at s j).lo) 0,
        up_to_zero (λ j. (job_at s j).hi) 0,
      )
      refl

  -- l is what `members` lends of the set
  pub columns_more : (k : Columns) (l : List Job) (i : ℕ) (d : Job) (b : Bool) → k ≡ columns_to s i
      → l ≡ take (min s.count 64) s.jobs → length l ≡ min s.count 64
      → i < length l → b ≡ sameb the_type (get_or l i d).level Hi
      → with_job k i (get_or l i d) b ≡ columns_to s (i + 1)
  unfolding columns_to
  columns_more k l i d b e jobs count h f =
      let room : i < 64 = omega arith in
      let w : get_or l i d ≡ job_at s (suc i) = get_d_any l i d blank h ∙ sym (ap (job_at s) (sym (add-one i)) ∙ job_of_jobs s l jobs count i h) in
      let j = job_at s (suc i) in
      ap (λ x. with_job x i (get_or l i d) b) e
      ∙ rw (
        f,
        w,
        is-hi j.level,
        up_to-more (up_to i (λ k. (job_at s k).arrival) 0) i (λ k. (job_at s k).arrival) j.arrival 0 refl room refl,
        up_to-more (up_to i (λ k. (job_at s k).deadline) 0) i (λ k. (job_at s k).deadline) j.deadline 0 refl room refl,
        up_to-more (up_to i (λ k. is_hi (job_at s k).level) false) i (λ k. is_hi (job_at s k).level) (is_hi j.level) false refl room refl,
        up_to-more (up_to i (λ k. (job_at s k).lo) 0) i (λ k. (job_at s k).lo) j.lo 0 refl room refl,
        up_to-more (up_to i (λ k. (job_at s k).hi) 0) i (λ k. (job_at s k).hi) j.hi 0 refl room refl,
      )
      refl

  critical_all : (i : ℕ) → i ≡ min s.count 64
      → up_to i (λ j. is_hi (job_at s j).level) false ≡ map (critical (view s).policy) (numbers 64)
  unfolding view critical up_to is_hi blank job
  critical_all i e =
      map_same (λ j. cond (leb j i) (is_hi (job_at s j).level) false) (λ j. is_hi (job_at s j).level)
      (λ j p q.
      split (leb j i) (λ z. rw z refl)
      (λ z. rw z (rw (job_out s j (and_no_r (leb 1 j) (lt-leb j s.count (omega (tests, z))))) refl)))

  all_filled : (i : ℕ) → i ≡ min s.count 64 → columns_to s i ≡ columns_of s
  unfolding columns_to columns_of places view
  all_filled i e =
      λ t. record {
        n = s.count;
        m = s.hi.count;
        arrivals = all (λ j. (job_at s j).arrival) t;
        deadlines = all (λ j. (job_at s j).deadline) t;
        critical = critical_all i e t;
        lo = all (λ j. (job_at s j).lo) t;
        hi = all (λ j. (job_at s j).hi) t;
        lo_order = s.lo.entries;
        hi_order = s.hi.entries;
      }
    where
      all : (f : ℕ → ℕ) → up_to i f 0 ≡ map (λ j. cond (leb 1 j && leb j s.count) (f j) 0) (numbers 64)
      all f = up_to-end i s.count f 0 e ∙ up_to-places s.count f 0

  pub columns_all : (l : List Job) (i : ℕ) → length l ≡ min s.count 64 → i ≤ length l → length l ≤ i → columns_to s i ≡ columns_of s
  columns_all l i count p q = all_filled i (omega arith)
