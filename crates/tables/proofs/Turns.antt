-- The turns of the HI table's maker.
--   Turn k e l h t   == what holds before slot t: the room e is filled so far, and h are the slots had before t
--   first-turn, next-turn, last_turn   == before the first slot, after one more, and after the last
--   lo_countable, hi_countable         == a slot more can be counted
--   read_length, made_front   == how much of the LO table is read; room that was given it begins with it
-- Assumes nothing.
use Prim.Native.Nat.{ℕ, ◌+◌, ◌≤◌, ◌<◌}
use mathlib.Core.Path.{◌≡◌, sym, ◌∙◌, ap}
use mathlib.Core.List.{List, ◌++◌}
use native.Mathlib.Omega.{arith}
use native.Mathlib.Numerals.{add-one}
use lib.ListN.{length, get_or, take, drop, set}
use lib.Seq.{take_at}
use Rattle.model.specs.declared.Level.TheVariants.{Hi}
use Rattle.model.specs.Lists.{at}
use Rattle.model.specs.Sets.{View, span}
use Rattle.model.specs.Scenarios.{zeros}
use Rattle.model.specs.Tables.{table_of, lo_table, lo_slot, hi_had_at, hi_slot, hi_table}
use Rattle.columns.specs.declared.Columns.{Columns}
use Rattle.columns.specs.Columns.{view_of}
use Rattle.runs.proofs.Room.{filled, filled_none, filled_next, made_length}
use Rattle.tables.specs.declared.table.Had.{Had}
use Rattle.tables.specs.Slots.{chosen, counted}
use Rattle.tables.proofs.Slots.{lo_had, lo-start, hi-start, lo-next, hi-next, lo-counts, hi-counts, lo-read, hi_pick_is}

made : (v : View) (f : ℕ → ℕ) → length (table_of v f) ≡ span v
unfolding table_of
made v f = made_length f 0 (span v)

pub read_length : (v : View) (n : ℕ) (l : List ℕ) → n ≡ span v → take n l ≡ lo_table v → length (take n l) ≡ n
unfolding lo_table
read_length v n l e h = ap length h ∙ made v (lo_slot v) ∙ sym e

pub made_front : (v : View) (l e : List ℕ) → l ≡ lo_table v ++ drop (span v) e → take (span v) l ≡ lo_table v
unfolding lo_table
made_front v l e h = rw h (take_at (lo_table v) (drop (span v) e) (span v) (made v (lo_slot v)))

pub record Turn (k : Columns) (e l : List ℕ) (h : Had) (t : ℕ) : Type 0 where
  pub table : l ≡ filled (hi_slot (view_of k)) t e
  pub in_lo : h.lo ≡ lo_had (view_of k) t
  pub in_hi : h.hi ≡ hi_had_at (view_of k) t

pub first-turn : (k : Columns) (e : List ℕ) → Turn k e e (record { lo = zeros; hi = zeros }) 0
first-turn k e =
    let v = view_of k in
    record { table = filled_none (hi_slot v) e; in_lo = sym (lo-start v); in_hi = sym (hi-start v) }

module _ (k : Columns) (e l : List ℕ) (h : Had) (t : ℕ) (i : Turn k e l h t) where
  pub last_turn : t ≡ span (view_of k) → l ≡ hi_table (view_of k) ++ drop (span (view_of k)) e
  unfolding hi_table table_of
  last_turn q = i.table ∙ ap (λ m. filled (hi_slot (view_of k)) m e) q

  -- neither count has reached 65,535
  pub lo_countable : (j : ℕ) → t ≤ 4096 → at h.lo j 0 < 65535
  lo_countable j q = rw i.in_lo (omega (arith, (lo-counts (view_of k) t).1 j))

  pub hi_countable : (j : ℕ) → t ≤ 4096 → at h.hi j 0 < 65535
  hi_countable j q = rw i.in_hi (omega (arith, (hi-counts (view_of k) t).1 j))

  pub next-turn : (lo : List ℕ) (j : ℕ) (a b : List ℕ) → lo ≡ lo_table (view_of k) → t < span (view_of k) → t < length e
      → j ≡ chosen ((view_of k).policy.order Hi) h.hi h.lo k.lo k.hi (get_or lo t 0)
      → a ≡ counted h.lo (get_or lo t 0)
      → b ≡ counted h.hi j
      → Turn k e (set l t j) (record { lo = a; hi = b }) (t + 1)
  next-turn lo j a b x q room c u w =
      let v = view_of k in
      let r : get_or lo t 0 ≡ lo_slot v t = lo-read v lo t x q in
      let y : j ≡ hi_slot v t = rw (r, i.in_lo, i.in_hi) at c ∙ hi_pick_is k t in
      record {
        table = filled_next (hi_slot v) t e l j room i.table y;
        in_lo = rw add-one (rw (r, i.in_lo) at u ∙ sym (lo-next v t));
        in_hi = rw add-one (rw (y, i.in_hi) at w ∙ sym (hi-next v t));
      }
