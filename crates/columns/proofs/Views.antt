-- The columns of a set spell out the set's own view: what they hold for a number that names no job is what the blank job has.
--   columns_view      == the view of a set's columns is the set's
--   columns_full      == they have their 64 places
--   good-counts       == the counts of a set that passes the checks
--   prepared          == of a set that passes the checks they are what a function that is lent them may ask for
-- Assumes nothing.
use Prim.Native.Nat.{ℕ, ◌≤◌}
use mathlib.Core.Path.{◌≡◌, refl, sym, ◌∙◌, ap, subst}
use mathlib.Core.Bool.{true, false, cond, ◌&&◌}
use mathlib.Core.List.{map}
use native.Mathlib.Omega.{arith}
use lib.Dec.{leb}
use lib.ListN.{length, take}
use borrow.Author.Tests.{lt-leb}
use Rattle.model.specs.declared.Level.{Level}
use Rattle.model.specs.declared.Level.TheVariants.{Lo, Hi}
use Rattle.model.specs.declared.Job.{Job}
use Rattle.model.specs.declared.Set.{Set}
use Rattle.model.specs.Lists.{at, numbers}
use Rattle.model.specs.Sets.{View, is_hi, blank, job, job_at, order_of, count_of, view, members, critical}
use Rattle.model.specs.Scenarios.{places, lo_times, hi_jobs}
use Rattle.model.specs.Refusals.{is_good, refusal}
use Rattle.laws.proofs.Bools.{tests, split, and_no_l, and_no_r}
use Rattle.laws.proofs.Sums.{at-numbers}
use Rattle.laws.proofs.Pigeonhole.{length_from, only_most}
use Rattle.laws.proofs.Places.{at_out}
use Rattle.laws.proofs.Sound.{Sound}
use Rattle.laws.proofs.Checks.{checks_pass, counts_right, passes_sound}
use Rattle.laws.proofs.Fill.{map-length}
use Rattle.columns.specs.declared.Columns.{Columns}
use Rattle.columns.specs.Columns.{by_mode, listed, counts_of, view_of, Full, columns_of, Testable, Prepared}
use Rattle.columns.proofs.Jobs.{cut-take, job_out}

-- a list with a place for each of 64 jobs, at any number
at_all {ℓ} : {A : Type ℓ} (f : ℕ → A) (d : A) (n j : ℕ) → n ≤ 64 → ((leb 1 j && leb j n) ≡ false → f j ≡ d)
    → at (map f (numbers 64)) j d ≡ f j
unfolding at
at_all f d n j h e =
    split (leb 1 j)
    (λ p.
    split (leb j 64) (λ q. at-numbers f 64 j d (omega (tests, p)) (omega (tests, q)))
    (λ q.
    at_out (map f (numbers 64)) j d (omega (tests, q, map-length f))
    ∙ sym (e (and_no_r (leb 1 j) (lt-leb j n (omega (tests, q)))))))
    (λ p. let z : j ≡ 0 = omega (tests, p) in rw z refl ∙ sym (e (and_no_l (leb j n) p)))

level_is : (l : Level) → cond (is_hi l) Hi Lo ≡ l
unfolding is_hi
level_is Lo = refl
level_is Hi = refl

module _ (s : Set) (n : s.count ≤ 64) where
  column_at : (f : Job → ℕ) → f blank ≡ 0 → (j : ℕ) → at (places (view s) (λ i. f (job_at s i))) j 0 ≡ f (job_at s j)
  unfolding places view
  column_at f z j =
      at_all (λ i. cond (leb 1 i && leb i s.count) (f (job_at s i)) 0) 0 s.count j n (λ a. rw a refl)
      ∙ split (leb 1 j && leb j s.count) (λ a. rw a refl) (λ a. rw a (sym z ∙ ap f (sym (job_out s j a))))

  level-at : (j : ℕ) → cond (at (map (critical (view s).policy) (numbers 64)) j false) Hi Lo ≡ (job_at s j).level
  unfolding view critical is_hi blank job
  level-at j =
      ap (λ b. cond b Hi Lo) (at_all (critical (view s).policy) false s.count j n (λ a. rw (job_out s j a) refl))
      ∙ level_is (job_at s j).level

module _ (s : Set) (n : s.count ≤ 64) (lo : s.lo.count ≡ s.count) (m : s.hi.count ≤ 64) (los : length s.lo.entries ≡ 64)
    (his : length s.hi.entries ≡ 64) where
  orders : (l : Level) → by_mode (take s.count s.lo.entries) (take s.hi.count s.hi.entries) l ≡ order_of s l
  unfolding by_mode order_of
  orders Lo = ap (λ k. take k s.lo.entries) (sym lo) ∙ sym (cut-take 0 s.lo.count s.lo.entries (omega arith))
  orders Hi = sym (cut-take 0 s.hi.count s.hi.entries (omega arith))

  counted : (l : Level) → counts_of s.count s.hi.count l ≡ count_of s l
  unfolding counts_of count_of
  counted Lo = sym lo
  counted Hi = refl

  pub columns_view : view_of (columns_of s) ≡ view s
  unfolding view_of listed columns_of view blank job
  columns_view =
      λ i. record {
        policy =
            record {
              part = λ j. leb 1 j && leb j s.count;
              arrival = λ j. column_at s n (λ (k : Job). k.arrival) refl j i;
              level = λ j. level-at s n j i;
              lo = λ j. column_at s n (λ (k : Job). k.lo) refl j i;
              order = λ l. orders l i;
            };
        count = s.count;
        deadline = λ j. column_at s n (λ (k : Job). k.deadline) refl j i;
        hi = λ j. column_at s n (λ (k : Job). k.hi) refl j i;
        counts = λ l. counted l i;
      }

  pub columns_full : Full (columns_of s)
  unfolding columns_of places
  columns_full =
      record {
        n = n;
        m = m;
        arrivals = map-length (λ j. cond ((view s).policy.part j) ((view s).policy.arrival j) 0);
        deadlines = map-length (λ j. cond ((view s).policy.part j) ((view s).deadline j) 0);
        critical = map-length (critical (view s).policy);
        lo = map-length (λ j. cond ((view s).policy.part j) ((view s).policy.lo j) 0);
        hi = map-length (λ j. cond ((view s).policy.part j) ((view s).hi j) 0);
        lo_order = los;
        hi_order = his;
      }

hi_few : (v : View) → length (hi_jobs v) ≤ 64
unfolding hi_jobs members numbers
hi_few v =
    omega (
      arith,
      only_most (critical v.policy) (members v.policy),
      only_most v.policy.part (numbers 64),
      length_from 1 64,
    )

good-counts : (s : Set) → is_good (refusal (view s)) ≡ true → (s.count ≤ 64) × (s.lo.count ≡ s.count) × (s.hi.count ≤ 64)
unfolding view count_of
good-counts s g =
    let r = counts_right (view s) (checks_pass (view s) g).count in (r.1, r.2, omega (arith, r.3, hi_few (view s)))

lo_column : (s : Set) → (columns_of s).lo ≡ lo_times (view s)
unfolding columns_of lo_times
lo_column s = refl

columns_testable : (s : Set) → is_good (refusal (view s)) ≡ true → length s.lo.entries ≡ 64 → length s.hi.entries ≡ 64
    → Testable (columns_of s) × (view_of (columns_of s) ≡ view s)
columns_testable s g los his =
    let c = good-counts s g in
    let e : view_of (columns_of s) ≡ view s = columns_view s c.0 c.1 c.2 los his in (
      record {
        full = columns_full s c.0 c.1 c.2 los his;
        sound = subst Sound (sym e) (passes_sound s g);
        los = lo_column s ∙ ap lo_times (sym e);
      },
      e,
    )

pub prepared : (s : Set) (k : Columns) → is_good (refusal (view s)) ≡ true → length s.lo.entries ≡ 64
    → length s.hi.entries ≡ 64 → k ≡ columns_of s → Prepared s k
prepared s k g lo hi e =
    let t = columns_testable s g lo hi in
    record { testable = subst Testable (sym e) t.0; same = ap view_of e ∙ t.1; good = g }
