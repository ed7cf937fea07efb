-- A run before its first slot, filled place by place.
--   over n c j      == job j has nothing to do, or the number names no job
--   start_zero, start-more, started   == the places filled so far: at first, after one more, and after the last, when it is the start
-- Assumes nothing.
use Rattle.std.specs.Prelude.{None as Never}
use Prim.Native.Nat.{ℕ, suc, ◌+◌, ◌≤◌, ◌<◌}
use mathlib.Core.Path.{◌≡◌, refl, sym}
use mathlib.Core.Bool.{Bool, true, not, ◌&&◌, ◌||◌}
use mathlib.Core.List.{List}
use native.Mathlib.Omega.{arith}
use lib.Dec.{eqb, leb}
use lib.ListN.{get_or, set, replicate}
use borrow.Author.Tests.{le-leb, lt-leb}
use Rattle.model.specs.declared.Level.TheVariants.{Lo}
use Rattle.model.specs.Runs.{time}
use Rattle.laws.proofs.Places.{at_suc}
use Rattle.laws.proofs.Fill.{up_to, up_to_zero, up_to-more, mixed, mixed_all}
use Rattle.runs.specs.declared.engine.Progress.{Progress}
use Rattle.runs.specs.Engine.{start_of}

abbrev pub over : ℕ → List ℕ → ℕ → Bool
over n c j = not (leb 1 j && leb j n) || eqb (time c j) 0

module _ (n : ℕ) (c : List ℕ) where
  pub start_zero : replicate 64 true ≡ up_to 0 (over n c) true
  start_zero = sym (up_to_zero (over n c) true)

  pub start-more : (l : List Bool) (i : ℕ) (b : Bool) → i < 64 → l ≡ up_to i (over n c) true → b ≡ over n c (suc i)
      → set l i b ≡ up_to (i + 1) (over n c) true
  start-more l i b h e q = up_to-more l i (over n c) b true e h q

  pub past : (i : ℕ) → n ≤ i → leb n i ≡ over n c (suc i)
  past i h = rw (le-leb n i h, le-leb 1 (suc i) (omega arith), lt-leb (suc i) n (omega arith)) refl

  pub within : (i : ℕ) → i < n → eqb (get_or c i 0) 0 ≡ over n c (suc i)
  unfolding time
  within i h = rw (le-leb 1 (suc i) (omega arith), le-leb (suc i) n (omega arith), at_suc c i 0) refl

  pub started : (l : List Bool) (i : ℕ) → i ≡ 64 → l ≡ up_to i (over n c) true
      → ◌≡◌ {A = Progress}
      (record {
        state = record { mode = Lo; had = replicate 64 0; done = l };
        slot = 0;
        switch = Never;
        finishes = replicate 64 0;
      })
      (start_of n c)
  unfolding start_of up_to mixed
  started l i p e = rw (e, p) (rw (mixed_all (over n c) (λ _. true)) refl)
