-- Rule 1 over the columns, a job at a time.
--   over .. j       == job j is a HI job that has had exactly its LO budget and is not done
--   tests           == what the code asks of job i + 1
--   overruns_are    == whether it finds one is rule 1
-- Assumes nothing.
use Rattle.std.specs.List.{list_any, range_with_len}
use Prim.Native.Nat.{ℕ, zero, suc, ◌+◌, ◌≤◌, ◌<◌}
use mathlib.Core.Path.{◌≡◌, refl, sym}
use mathlib.Core.Bool.{Bool, true, false, not, ◌&&◌}
use mathlib.Core.List.{List}
use native.Mathlib.Omega.{arith}
use native.Mathlib.Numerals.{add-one}
use lib.Dec.{eqb}
use lib.ListN.{length, get_or}
use Rattle.model.specs.Lists.{at, from, numbers, any}
use Rattle.laws.proofs.Places.{at_suc, get_d_any}
use Rattle.runs.specs.Engine.{any_overrun}

abbrev pub over : List Bool → List ℕ → List ℕ → List Bool → ℕ → Bool
over k l h d j = at k j false && (eqb (at h j 0) (at l j 0) && not (at d j true))

abbrev pub outrun : List Bool → List ℕ → List ℕ → List Bool → ℕ → Bool
outrun k l h d i = get_or k i false && (eqb (get_or h i 0) (get_or l i 0) && not (get_or d i false))

any_from : (f g : ℕ → Bool) (a n : ℕ) → ((i : ℕ) → i < a + n → f i ≡ g (suc i)) → list_any f (range_with_len a n) ≡ any g (from (suc a) n)
unfolding any from
any_from f g a zero h = refl
any_from f g a (suc n) h = rw (h a (omega arith), add-one, any_from f g (suc a) n (λ i q. h i (omega arith))) refl

pub overruns_are : (n : ℕ) (k : List Bool) (l h : List ℕ) (d : List Bool) (b : Bool) → n ≤ 64 → length d ≡ 64
    → b ≡ list_any (outrun k l h d) (range_with_len 0 n) → b ≡ any_overrun n k l h d
unfolding any_overrun numbers
overruns_are n k l h d b m q e =
    rw (
      e,
      any_from (outrun k l h d) (over k l h d) 0 n
          (λ i r.
          sym (rw (at_suc k i false, at_suc h i 0, at_suc l i 0, at_suc d i true, get_d_any d i true false (omega arith)) refl)),
    ) refl
