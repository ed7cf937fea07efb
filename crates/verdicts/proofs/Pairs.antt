-- A loop over the numbered jobs, each beside its finish.
--   Paired l f n p   == what the loop is given at turn n: the number n, the job at place n of l and the finish at place n of f
--   pair-turn        == a turn of the loop is given that;  pairs-end: how many turns there are
-- Assumes nothing.
use Prim.Native.Nat.{ℕ, ◌+◌, ◌<◌, min}
use mathlib.Core.Path.{◌≡◌, ◌∙◌, ap}
use mathlib.Core.List.{List}
use native.Mathlib.Omega.{arith}
use denote.Ref.{Bor}
use lib.ListN.{length, get_or}
use Rattle.std.specs.Prelude.{Option, Some, None}
use Rattle.std.specs.Iterator.{Yields}
use Rattle.std.specs.Iterator.Adapters.{zip_first, zip_second, enumerate_source, enumerate_count, enumerate_steps}
use Rattle.std.specs.List.{zip, enumerate_from}
use Rattle.std.specs.Slice.Iter.{iter_rest}
use Rattle.std.proofs.iter.Yields.{fronts}
use Rattle.std.proofs.lemmas.Iterator.{zips, YieldsList-from_slice, YieldsList-from_zip}
use Rattle.std.proofs.lemmas.Iterator.Consumers.{YieldsList-from_enumerate, YieldsList-turn, YieldsList-end}
use Rattle.std.proofs.lemmas.List.{get_or_default}
use Rattle.std.proofs.lemmas.List.FromFn.{length-enumerate_from, get_or-enumerate_from}
use Rattle.std.proofs.lemmas.Slice.Zip.{length-zip, get_or-zip}
use Rattle.model.specs.declared.Job.{Job}
use Rattle.model.specs.Sets.{blank}

abbrev pub Pair : Type 0
Pair = ℕ × (Bor Job × Bor ℕ)

pub record Paired (l : List Job) (f : List ℕ) (n : ℕ) (p : Pair) : Type 0 where
  pub below : n < length l
  pub place : p.0 ≡ n
  pub job : p.1.0.now ≡ get_or l n blank
  pub finish : p.1.1.now ≡ get_or f n 0

module _ (l : List Job) (f : List ℕ) where
  abbrev numbered : List (ℕ × (Job × ℕ))
  numbered = enumerate_from 0 (zip l f)

  long : length numbered ≡ min (length l) (length f)
  long = length-enumerate_from 0 (zip l f) ∙ length-zip l f

  pair_at : (n : ℕ) (p : ℕ × (Job × ℕ)) → n < length numbered → p ≡ get_or numbered n p → p ≡ (n, (get_or l n blank, get_or f n 0))
  pair_at n p q e =
      let z : n < length (zip l f) = omega (arith, length-enumerate_from 0 (zip l f)) in
      let none : ℕ × (Job × ℕ) = (0, (blank, 0)) in
      let zero : 0 + n ≡ n = omega arith in
      e ∙ get_or_default numbered n p none q ∙ get_or-enumerate_from 0 (zip l f) n none z
      ∙ ap (λ m. (m, get_or (zip l f) n (blank, 0))) zero
      ∙ ap (λ w. (n, w)) (get_or-zip l f n (blank, 0) (omega (arith, long)) (omega (arith, long)))

  -- s is the loop's iterator, which has given xs, and stands at t
  module _ (s t u : _) (first : iter_rest (zip_first (enumerate_source s)) ≡ l) (second : iter_rest (zip_second (enumerate_source s)) ≡ f)
      (count : enumerate_count s ≡ 0) (xs : List Pair) (y : Yields (enumerate_steps (zips fronts fronts)) s xs t) (r : Option Pair)
      (step : enumerate_steps (zips fronts fronts) t r u) where
    pub pair-turn : (p : Pair) → r ≡ Some p → Paired l f (length xs) p
    pair-turn p e =
        let road = YieldsList-from_enumerate (YieldsList-from_zip (YieldsList-from_slice l first) (YieldsList-from_slice f second)) count in
        let a = YieldsList-turn road xs t y r u p e step in
        let d = pair_at (length xs) (p.0, (p.1.0.now, p.1.1.now)) a.0 a.1 in
        record {
          below = omega (arith, a.0, long);
          place = ap (λ (w : ℕ × (Job × ℕ)). w.0) d;
          job = ap (λ (w : ℕ × (Job × ℕ)). w.1.0) d;
          finish = ap (λ (w : ℕ × (Job × ℕ)). w.1.1) d;
        }

    pub pairs-end : r ≡ None → length xs ≡ min (length l) (length f)
    pairs-end e =
        let road = YieldsList-from_enumerate (YieldsList-from_zip (YieldsList-from_slice l first) (YieldsList-from_slice f second)) count in
        (YieldsList-end road xs t y r u e step).1 ∙ long
