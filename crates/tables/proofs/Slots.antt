-- The slots of the two tables over the columns, and the slots that each job has had in them.
--   first_found       == the first that passes a test, as `find` has it
--   counted-..        == one slot more for a job
--   counts            == after t slots the places are still 64, and none has had more than t
--   lo_had v t        == the slots had before t in the LO table;  lo-read: its slot t, read from what a maker left
--   hi_pick_is        == the first enabled job over the columns is the HI table's slot
-- Assumes nothing.
use Rattle.std.specs.Prelude.{Option, None, Some}
use Rattle.std.specs.Option.{option_map, unwrap_or}
use Rattle.std.specs.List.{find}
use Prim.Native.Nat.{ℕ, zero, suc, ◌-◌, ◌≤◌, ◌<◌}
use mathlib.Core.Path.{◌≡◌, refl, ◌∙◌, ap}
use mathlib.Core.Bool.{Bool}
use mathlib.Core.List.{List, [], ◌∷◌}
use native.Mathlib.Omega.{arith}
use lib.Dec.{eqb, leb}
use lib.ListN.{length, get_or, length-set, length-replicate, replicate}
use lib.Seq.{set_out}
use borrow.Author.Tests.{eqb-true, eqb-false}
use Rattle.model.specs.declared.Level.{Level}
use Rattle.model.specs.declared.Level.TheVariants.{Hi}
use Rattle.model.specs.declared.State.{State}
use Rattle.model.specs.Lists.{at, first}
use Rattle.model.specs.Sets.{View, span}
use Rattle.model.specs.Runs.{bump, account, state_at, step, slot_now, mode_now, slot_at, had_at, start}
use Rattle.model.specs.Scenarios.{lo_times, zeros}
use Rattle.model.specs.Tables.{table_of, lo_table, lo_slot, enabled, hi_pick, hi_had_at, hi_slot}
use Rattle.laws.proofs.Bools.{tests, split}
use Rattle.laws.proofs.Sums.{get_or-from}
use Rattle.laws.proofs.Places.{at_set}
use Rattle.measures.specs.Measures.{enabled_by}
use Rattle.columns.specs.declared.Columns.{Columns}
use Rattle.columns.specs.Columns.{listed, by_mode, view_of}
use Rattle.tables.specs.Slots.{enabled_in, chosen, counted}

-- the pick, as the code finds it -------------------------------------------------------------------------------------------------------

by_id : (o : Option ℕ) → unwrap_or o 0 ≡ unwrap_or (option_map (λ x. x) o) 0
by_id None = refl
by_id (Some x) = refl

found_first : (test : ℕ → Bool) (l : List ℕ) → unwrap_or (find test l) 0 ≡ first test l
unfolding first
found_first test [] = refl
found_first test (x ∷ l) = split (test x) (λ t. rw t refl) (λ f. rw f (found_first test l))

pub first_found : (test : ℕ → Bool) (l : List ℕ) (r : Option ℕ) → option_map (λ x. x) r ≡ find test l → unwrap_or r 0 ≡ first test l
first_found test l r e = by_id r ∙ ap (λ o. unwrap_or o 0) e ∙ found_first test l

-- slots had --------------------------------------------------------------------------------------------------------------------------

at_zero : (l : List ℕ) (j n : ℕ) → j ≡ 0 → at l j 0 ≤ suc n
unfolding at
at_zero l j n e = rw e (omega arith)

module _ (l : List ℕ) (j : ℕ) where
  pub counted-length : length (counted l j) ≡ length l
  unfolding counted bump
  counted-length = split (eqb j 0) (λ e. rw e refl) (λ e. rw e (length-set l (j - 1) (suc (at l j 0))))

  counted_le : (n i : ℕ) → ((k : ℕ) → at l k 0 ≤ n) → at (counted l j) i 0 ≤ suc n
  unfolding counted bump
  counted_le n i h =
      split (eqb i 0) (λ e. at_zero (counted l j) i n (eqb-true i 0 e))
      (λ e.
      let one : 1 ≤ i = let ne = eqb-false i 0 e in omega arith in
      split (eqb j 0)
      (λ z. rw z (omega (arith, h i)))
      (λ z. rw z
      (split (leb j (length l))
      (λ q. rw (at_set l j i (suc (at l j 0)) 0 (let ne = eqb-false j 0 z in omega arith) (omega (tests, q)) one)
      (split (eqb j i) (λ w. rw w (omega (arith, h j))) (λ w. rw w (omega (arith, h i)))))
      (λ q. rw (set_out l (j - 1) (suc (at l j 0)) (omega (tests, q))) (omega (arith, h i))))))

zeros-get_or : (n i : ℕ) → get_or (replicate n 0) i 0 ≤ 0
zeros-get_or zero i = omega arith
zeros-get_or (suc n) zero = omega arith
zeros-get_or (suc n) (suc i) = zeros-get_or n i

at-zeros : (j : ℕ) → at zeros j 0 ≤ 0
unfolding at zeros
at-zeros j = split (eqb j 0) (λ e. rw e (omega arith)) (λ e. rw e (zeros-get_or 64 (j - 1)))

account-counts : (c : List ℕ) (j : ℕ) (m : Level) (s : State) → (account c j m s).had ≡ counted s.had j
unfolding account counted
account-counts c j m s = split (eqb j 0) (λ e. rw e refl) (λ e. rw e refl)

-- lists that start at 0 and count a slot a turn
module _ (s : ℕ → List ℕ) (slot : ℕ → ℕ) (start : s 0 ≡ zeros) (next : (t : ℕ) → s (suc t) ≡ counted (s t) (slot t)) where
  counts : (t : ℕ) → (length (s t) ≡ 64) × ((j : ℕ) → at (s t) j 0 ≤ t)
  unfolding zeros
  counts zero = rw start (length-replicate {A = ℕ} 64 0, at-zeros)
  counts (suc t) =
      let i = counts t in
      rw next (counted-length (s t) (slot t) ∙ i.0, λ j. counted_le (s t) (slot t) t j i.1)

abbrev pub lo_had : View → ℕ → List ℕ
lo_had v t = (state_at v.policy (lo_times v) t).had

module _ (v : View) where
  pub lo-start : lo_had v 0 ≡ zeros
  unfolding state_at start zeros
  lo-start = refl

  pub lo-next : (t : ℕ) → lo_had v (suc t) ≡ counted (lo_had v t) (lo_slot v t)
  unfolding state_at step lo_slot slot_at
  lo-next t =
      let s = state_at v.policy (lo_times v) t in
      account-counts (lo_times v) (slot_now v.policy s t) (mode_now v.policy s) s

  pub hi-start : hi_had_at v 0 ≡ zeros
  unfolding hi_had_at
  hi-start = refl

  pub hi-next : (t : ℕ) → hi_had_at v (suc t) ≡ counted (hi_had_at v t) (hi_slot v t)
  unfolding hi_had_at hi_slot counted
  hi-next t = refl

  pub lo-counts : (t : ℕ) → (length (lo_had v t) ≡ 64) × ((j : ℕ) → at (lo_had v t) j 0 ≤ t)
  lo-counts t = counts (lo_had v) (lo_slot v) lo-start lo-next t

  pub hi-counts : (t : ℕ) → (length (hi_had_at v t) ≡ 64) × ((j : ℕ) → at (hi_had_at v t) j 0 ≤ t)
  hi-counts t = counts (hi_had_at v) (hi_slot v) hi-start hi-next t

  pub lo-read : (l : List ℕ) (t : ℕ) → l ≡ lo_table v → t < span v → get_or l t 0 ≡ lo_slot v t
  unfolding lo_table table_of
  lo-read l t e h = ap (λ r. get_or r t 0) e ∙ get_or-from (lo_slot v) 0 (span v) t 0 h ∙ ap (lo_slot v) (omega arith)

pub hi_pick_is : (k : Columns) (t : ℕ)
    → chosen ((view_of k).policy.order Hi) (hi_had_at (view_of k) t) (lo_had (view_of k) t) k.lo k.hi (lo_slot (view_of k) t)
    ≡ hi_slot (view_of k) t
unfolding chosen enabled_in enabled_by hi_slot hi_pick enabled had_at view_of listed by_mode
hi_pick_is k t = refl
