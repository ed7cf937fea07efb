-- A set column by column.
--   listed         == the policy that these lists spell out
--   view_of k      == the view that the columns k spell out
--   columns_of s   == the columns of the set s
--   Full k         == columns of 64 places, and counts within them
--   Testable k     == full columns of a sound set, with 0 beyond the LO budgets
--   Prepared s k   == k are the columns of a set s that passes the checks, as the proofs of the runs and the tables ask for them
use Rattle.std.specs.Prelude.{ℕ, ◌≤◌, ◌≡◌, Bool, true, false, cond, ◌&&◌, List, map, leb, length, take}
use Rattle.model.specs.declared.Level.{Level}
use Rattle.model.specs.declared.Level.TheVariants.{Lo, Hi}
use Rattle.model.specs.declared.Set.{Set}
use Rattle.model.specs.Lists.{at, numbers}
use Rattle.model.specs.Sets.{Policy, View, view, critical}
use Rattle.model.specs.Scenarios.{places, lo_times}
use Rattle.model.specs.Refusals.{is_good, refusal}
use Rattle.laws.proofs.Sound.{Sound}
use Rattle.columns.specs.declared.Columns.{Columns}

unfoldable pub by_mode : List ℕ → List ℕ → Level → List ℕ
by_mode lo hi Lo = lo
by_mode lo hi Hi = hi

unfoldable pub listed : ℕ → List ℕ → List Bool → List ℕ → List ℕ → List ℕ → Policy
listed n arrivals critical lo lo_order hi_order =
    record {
      part = λ j. leb 1 j && leb j n;
      arrival = λ j. at arrivals j 0;
      level = λ j. cond (at critical j false) Hi Lo;
      lo = λ j. at lo j 0;
      order = by_mode lo_order hi_order;
    }

unfoldable pub counts_of : ℕ → ℕ → Level → ℕ
counts_of n m Lo = n
counts_of n m Hi = m

unfoldable pub view_of : Columns → View
view_of k =
    record {
      policy =
          listed k.n k.arrivals k.critical k.lo (take k.n k.lo_order) (take k.m k.hi_order);
      count = k.n;
      deadline = λ j. at k.deadlines j 0;
      hi = λ j. at k.hi j 0;
      counts = counts_of k.n k.m;
    }

-- the columns have their 64 places, and the orders' counts lie within them
pub record Full (k : Columns) : Type 0 where
  pub n : k.n ≤ 64
  pub m : k.m ≤ 64
  pub arrivals : length k.arrivals ≡ 64
  pub deadlines : length k.deadlines ≡ 64
  pub critical : length k.critical ≡ 64
  pub lo : length k.lo ≡ 64
  pub hi : length k.hi ≡ 64
  pub lo_order : length k.lo_order ≡ 64
  pub hi_order : length k.hi_order ≡ 64

unfoldable pub columns_of : Set → Columns
columns_of s =
    record {
      n = s.count;
      m = s.hi.count;
      arrivals = places (view s) (view s).policy.arrival;
      deadlines = places (view s) (view s).deadline;
      critical = map (critical (view s).policy) (numbers 64);
      lo = places (view s) (view s).policy.lo;
      hi = places (view s) (view s).hi;
      lo_order = s.lo.entries;
      hi_order = s.hi.entries;
    }

pub record Testable (k : Columns) : Type 0 where
  pub full : Full k
  pub sound : Sound (view_of k)
  pub los : k.lo ≡ lo_times (view_of k)

pub record Prepared (s : Set) (k : Columns) : Type 0 where
  pub testable : Testable k
  pub same : view_of k ≡ view s
  pub good : is_good (refusal (view s)) ≡ true
