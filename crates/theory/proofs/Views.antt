-- From the words over the struct to the facts over its view, and back.
--   sound_of, part_of, critical_of, job_of  == what the words say of the view
--   run_of, run_is                          == a run, as facts about its times
--   in_time                                 == a finish by the deadline is InTime
--   alike_view                              == sets that differ only beyond their counts have one view
-- Assumes nothing.
use Prim.Native.Nat.{ℕ, ◌≤◌}
use mathlib.Core.Path.{◌≡◌, ap}
use mathlib.Core.Bool.{true, ◌&&◌}
use lib.Dec.{leb}
use mathlib.Core.List.{List}
use native.Mathlib.Omega.{arith}
use Rattle.model.specs.declared.Level.{Level}
use Rattle.model.specs.declared.Level.TheVariants.{Lo, Hi}
use Rattle.model.specs.declared.Set.{Set}
use Rattle.model.specs.Lists.{at}
use Rattle.model.specs.Sets.{is_hi, blank, job_at, order_of, count_of, view, critical, span}
use Rattle.model.specs.Runs.{finish_of, required}
use Rattle.model.specs.Refusals.{good, is_good}
use Rattle.theory.specs.Words.{Passes, JobOf, HiJobOf, RunOf, InTime, Alike}
use Rattle.laws.proofs.Places.{is_hi_lem}
use Rattle.laws.proofs.Runs as Run
use Rattle.laws.proofs.Sound.{Sound}
use Rattle.laws.proofs.Checks.{passes_sound, check_run_lem}
use Rattle.laws.proofs.Ends.{Times, limit-hi}
use Rattle.theory.proofs.Embeddings.{part_i, part_e}
use Rattle.laws.proofs.Outcomes.{ends_as, ends-done}

pub sound_of : (s : Set) → Passes s → Sound (view s)
unfolding is_good good
sound_of s h = passes_sound s (ap is_good h)

pub part_of : (s : Set) (j : ℕ) → JobOf s j → (view s).policy.part j ≡ true
part_of s j h = part_i s j h.0 h.1

pub critical_of : (s : Set) (j : ℕ) → HiJobOf s j → critical (view s).policy j ≡ true
unfolding critical view is_hi
critical_of s j h = ap is_hi h.1

pub job_of : (s : Set) (j : ℕ) → (view s).policy.part j ≡ true → critical (view s).policy j ≡ true → HiJobOf s j
unfolding critical view
job_of s j a k = (part_e s j a, is_hi_lem (job_at s j).level k)

pub run_of : (s : Set) → Passes s → (c : List ℕ) → RunOf s c → Times (view s) c
run_of s h c r = (check_run_lem (view s) c (sound_of s h).ordered.room).0 r

pub run_is : (s : Set) → Passes s → (c : List ℕ) → Times (view s) c → RunOf s c
run_is s h c r = (check_run_lem (view s) c (sound_of s h).ordered.room).1 r

pub in_time : (s : Set) (h : Passes s) (c : List ℕ) (r : RunOf s c) (j : ℕ) → JobOf s j → required (view s) c j ≡ true
    → finish_of (view s).policy c (span (view s)) j ≤ (job_at s j).deadline → InTime s c j
in_time s h c r j a q l =
    let v = view s in
    let sv = sound_of s h in
    let p = part_of s j a in
    let t = run_of s h c r in
    let f : ℕ = finish_of v.policy c (span v) j in
    let d : ℕ = (job_at s j).deadline in
    record {
      finish = f;
      ends = ends_as v sv.ordered (limit-hi v sv) c t j p q;
      by = l;
      had =
          omega (
            arith,
            ends-done v sv.ordered (limit-hi v sv) c t j p q,
            Run.had-later v.policy c sv.ordered.room f d j a.0 l,
            Run.had_le v.policy c sv.ordered.room d j p,
          );
    }

pub alike_view : (s t : Set) → Alike s t → view s ≡ view t
unfolding view job_at
alike_view s t h =
    λ i. record {
      policy =
          record {
            part = λ j. leb 1 j && leb j (h.count i);
            arrival = λ j. (at (h.jobs i) j blank).arrival;
            level = λ j. (at (h.jobs i) j blank).level;
            lo = λ j. (at (h.jobs i) j blank).lo;
            order = orders i;
          };
      count = h.count i;
      deadline = λ j. (at (h.jobs i) j blank).deadline;
      hi = λ j. (at (h.jobs i) j blank).hi;
      counts = counted i;
    }
  where
    orders : order_of s ≡ order_of t
    orders = λ i m. by_level m i
      where
        by_level : (m : Level) → order_of s m ≡ order_of t m
        by_level Lo = h.lo_order
        by_level Hi = h.hi_order

    counted : count_of s ≡ count_of t
    counted = λ i m. by_level m i
      where
        by_level : (m : Level) → count_of s m ≡ count_of t m
        by_level Lo = h.lo_count
        by_level Hi = h.hi_count
