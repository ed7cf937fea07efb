-- Who is ready first, over lent lists.
--   found  == the first of an order that is ready, as an answer
-- Assumes nothing.
use Prim.Native.Nat.{ℕ, suc, ◌≤◌}
use mathlib.Core.Path.{◌≡◌, refl}
use mathlib.Core.Bool.{Bool, true, not}
use mathlib.Core.List.{List, [], ◌∷◌}
use native.Mathlib.Omega.{arith}
use lib.Dec.{leb}
use borrow.Author.Tests.{ne_eqb, not-true}
use Rattle.std.specs.List.{find}
use Rattle.model.specs.Lists.{at, first}
use Rattle.model.specs.Runs.{ready, pick}
use Rattle.model.specs.Answers.{picked, lent_pick}
use Rattle.laws.proofs.Bools.{split, and_r}
use Rattle.laws.proofs.Places.{place}

ready-place : (a : ℕ → ℕ) (d : List Bool) (t j : ℕ) → ready a d t j ≡ true → 1 ≤ j
unfolding ready
ready-place a d t j h = (place d j (not-true (at d j true) (and_r (leb (a j) t) (not (at d j true)) h))).0

pub found : (l a : List ℕ) (d : List Bool) (t : ℕ) → find (ready (λ j. at a j (suc t)) d t) l ≡ lent_pick l a d t
unfolding lent_pick pick first picked
found [] a d t = refl
found (j ∷ l) a d t =
    let goes = ready (λ i. at a i (suc t)) d t in
    split (goes j)
    (λ r. rw (r, ne_eqb j 0 (let one = ready-place (λ i. at a i (suc t)) d t j r in omega arith)) refl)
    (λ r. rw r (found l a d t))
