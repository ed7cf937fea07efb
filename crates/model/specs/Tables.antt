-- Document 01, "The two tables".
--   lo_table v        == scenario 0, slot by slot
--   enabled v t h j   == rules (a), (b), (c) for HI job j at t, where h holds the slots had in the HI table
--   hi_had_at v t     == the slots that each job has had before t in the HI table
--   hi_table v        == the HI table
--   part l t          == the part of the table l from instant t to its end
use Rattle.std.specs.Prelude.{ℕ, zero, suc, Bool, cond, ◌&&◌, ◌||◌, List, map, eqb, ltb, drop}
use Rattle.model.specs.declared.Level.TheVariants.{Hi}
use Rattle.model.specs.Lists.{at, from, first}
use Rattle.model.specs.Sets.{View, span}
use Rattle.model.specs.Runs.{slot_at, had_at, bump}
use Rattle.model.specs.Scenarios.{lo_times, zeros}

-- "Each has one entry a slot, 0 for idle, else a job number, for the span's length."
unfoldable pub table_of : View → (ℕ → ℕ) → List ℕ
table_of v slot = map slot (from 0 (span v))

-- "The LO table is scenario 0."
unfoldable pub lo_slot : View → ℕ → ℕ
lo_slot v t = slot_at v.policy (lo_times v) t

unfoldable pub lo_table : View → List ℕ
lo_table v = table_of v (lo_slot v)

-- "Let L(t) and H(t) be the slots that a HI job has had before t in the LO and HI tables. An unfinished HI job (H(t) below its HI budget)
-- is enabled at t if one of these holds: (a) L(t) equals its LO budget; (b) H(t) < L(t); (c) the LO table runs it in slot t."
unfoldable pub enabled : View → ℕ → List ℕ → ℕ → Bool
enabled v t h j =
    let l = had_at v.policy (lo_times v) t j in
    ltb (at h j 0) (v.hi j) && (eqb l (v.policy.lo j) || (ltb (at h j 0) l || eqb (lo_slot v t) j))

-- "The enabled job highest in the HI order gets the slot."
unfoldable pub hi_pick : View → ℕ → List ℕ → ℕ
hi_pick v t h = first (enabled v t h) (v.policy.order Hi)

unfoldable pub hi_had_at : View → ℕ → List ℕ
hi_had_at v zero = zeros
hi_had_at v (suc t) = let h = hi_had_at v t in let j = hi_pick v t h in cond (eqb j 0) h (bump h j)

unfoldable pub hi_slot : View → ℕ → ℕ
hi_slot v t = hi_pick v t (hi_had_at v t)

unfoldable pub hi_table : View → List ℕ
hi_table v = table_of v (hi_slot v)

-- "A part of the caller's table itself .. Its end is the end of the slice handed in. An instant past the end gives the empty part."
unfoldable pub part : List ℕ → ℕ → List ℕ
part l t = drop t l
