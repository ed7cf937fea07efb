-- From the ways that making both tables ends to the model's answers.
--   refused_first, after_set   == the refusal: of the set, or what check 8 says;  both_fit: where it says nothing both rooms suffice
--   lo_made        == then the slots of scenario 0 are not refused either, and their room holds the LO table
--   hi_ready       == so the HI table can be made from it
--   kept           == where there is one, both rooms stay as they are;  made: where there is none, they hold the tables
-- Assumes nothing.
use Rattle.std.specs.Prelude.{Ok, Err}
use Prim.Native.Nat.{ℕ, ◌≤◌}
use mathlib.Core.Path.{◌≡◌, refl, sym, ◌∙◌, ap, subst}
use mathlib.Core.List.{List, [], ◌∷◌, ◌++◌}
use native.Mathlib.Omega.{arith}
use lib.ListN.{length, take, drop}
use Rattle.model.specs.declared.Set.{Set}
use Rattle.model.specs.declared.Refusal.{Refusal}
use Rattle.model.specs.Sets.{View, view, span}
use Rattle.model.specs.Scenarios.{lo_times}
use Rattle.model.specs.Tables.{lo_slot, lo_table, hi_table}
use Rattle.model.specs.Refusals.{good, is_good, checked, first_of, refusal, check_room}
use Rattle.model.specs.Answers.{unless, tables_refusal, lo_table_in, hi_table_in, slots_refusal, slots_in}
use Rattle.laws.proofs.Refusals.{unless-good, room_enough, room-good}
use Rattle.laws.proofs.Sound.{Sound}
use Rattle.laws.proofs.Turns.{lo-range}
use Rattle.laws.proofs.Answers.{times_pass}
use Rattle.checks.proofs.Checked.{passes, refused}
use Rattle.columns.specs.declared.Columns.{Columns}
use Rattle.columns.specs.Columns.{view_of, Prepared}
use Rattle.runs.proofs.Refused.{taken, passed, last}
use Rattle.tables.proofs.Turns.{made_front}

module _ (v : View) (lo hi : ℕ) where
  pub refused_first : (x : Refusal) → Err x ≡ checked (refusal v) → Err x ≡ checked (tables_refusal v lo hi)
  unfolding tables_refusal
  refused_first x e = taken (refusal v) x (check_room v lo hi ∷ []) e

  pub after_set : Ok tt ≡ checked (refusal v) → checked (check_room v lo hi) ≡ checked (tables_refusal v lo hi)
  unfolding tables_refusal
  after_set g = last (check_room v lo hi) ∙ passed (refusal v) (check_room v lo hi ∷ []) g

  pub both_fit : Ok tt ≡ checked (check_room v lo hi) → (span v ≤ lo) × (span v ≤ hi)
  both_fit r = room-good v lo hi (passes (check_room v lo hi) r)

module _ (s : Set) (k : Columns) (p : Prepared s k) (lo : List ℕ) where
  -- scenario 0 is not refused
  lo_passes : span (view s) ≤ length lo → good ≡ slots_refusal (view s) (lo_times (view s)) (length lo)
  unfolding slots_refusal first_of is_good good
  lo_passes h =
      let v = view s in
      let sound : Sound v = subst Sound p.same p.testable.sound in
      sym
      (rw p.good
      (rw (room_enough v (length lo) (length lo) h h)
      (rw (times_pass v (lo_times v) p.good (lo-range v sound)) refl)))

  pub lo_made : (l : List ℕ) → l ≡ slots_in (view s) k.lo lo → span (view s) ≤ length lo → l ≡ lo_table (view s) ++ drop (span (view s)) lo
  unfolding slots_in lo_table lo_slot good
  lo_made l e h =
      let v = view s in
      e
      ∙ ap (λ c. slots_in v c lo) (p.testable.los ∙ ap lo_times p.same)
      ∙ sym (unless-good (slots_refusal v (lo_times v) (length lo)) good (lo_passes h) lo (lo_table v ++ drop (span v) lo) refl)

  pub hi_ready : (l : List ℕ) (m n : ℕ) → l ≡ lo_table (view s) ++ drop (span (view s)) lo → n ≡ span (view s) → span (view s) ≤ m
      → (n ≡ span (view_of k)) × (n ≤ 4096) × (n ≤ m) × (take n l ≡ lo_table (view_of k))
  hi_ready l m n e q h =
      let z : n ≡ span (view_of k) = q ∙ ap span (sym p.same) in (
        z,
        omega (arith, z, p.testable.sound.bounded),
        omega arith,
        rw (q, p.same) (made_front (view s) l lo e),
      )

module _ (v : View) (lo hi : List ℕ) where
  pub kept : (x : Refusal) → Err x ≡ checked (tables_refusal v (length lo) (length hi))
      → (lo ≡ lo_table_in v lo hi) × (hi ≡ hi_table_in v lo hi)
  unfolding lo_table_in hi_table_in unless
  kept x e = let r = (refused (tables_refusal v (length lo) (length hi)) x e).1 in (rw r refl, rw r refl)

  pub made : Ok tt ≡ checked (tables_refusal v (length lo) (length hi))
      → (lo_table v ++ drop (span v) lo ≡ lo_table_in v lo hi) × (hi_table v ++ drop (span v) hi ≡ hi_table_in v lo hi)
  unfolding lo_table_in hi_table_in unless
  made e = let r = passes (tables_refusal v (length lo) (length hi)) e in (rw r refl, rw r refl)
