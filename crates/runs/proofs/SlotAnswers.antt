-- From the ways that writing a run's slots ends to the model's answers.
--   refused_first, refused_room, after_checks   == the refusal: of the set, 8, or what check 9 says
--   kept, made     == what the room lent holds then: what it held, or the run's slots
-- Assumes nothing.
use Rattle.std.specs.Prelude.{Ok, Err}
use Prim.Native.Nat.{ℕ, ◌≤◌}
use mathlib.Core.Path.{◌≡◌, refl, sym, ◌∙◌, ap}
use mathlib.Core.List.{List, [], ◌∷◌, ◌++◌, map}
use native.Mathlib.Omega.{arith}
use lib.ListN.{length, drop}
use Rattle.model.specs.declared.Refusal.{Refusal}
use Rattle.model.specs.declared.Set.{Set}
use Rattle.model.specs.Lists.{from}
use Rattle.model.specs.Sets.{View, view, span}
use Rattle.model.specs.Runs.{slot_at}
use Rattle.model.specs.Tables.{table_of}
use Rattle.model.specs.Refusals.{checked, refusal, check_room, check_run}
use Rattle.model.specs.Answers.{unless, slots_refusal, slots_in}
use Rattle.laws.proofs.Refusals.{room-good}
use Rattle.columns.specs.declared.Columns.{Columns}
use Rattle.columns.specs.Columns.{view_of, Prepared}
use Rattle.checks.proofs.Checked.{passes, refused}
use Rattle.runs.proofs.Refused.{taken, passed, last}

module _ (v : View) (c : List ℕ) (n : ℕ) where
  pub refused_first : (x : Refusal) → Err x ≡ checked (refusal v) → Err x ≡ checked (slots_refusal v c n)
  unfolding slots_refusal
  refused_first x e = taken (refusal v) x (check_room v n n ∷ check_run v c ∷ []) e

  module _ (g : Ok tt ≡ checked (refusal v)) where
    pub refused_room : (x : Refusal) → Err x ≡ checked (check_room v n n) → Err x ≡ checked (slots_refusal v c n)
    unfolding slots_refusal
    refused_room x e =
        taken (check_room v n n) x (check_run v c ∷ []) e ∙ passed (refusal v) (check_room v n n ∷ check_run v c ∷ []) g

    after_room : Ok tt ≡ checked (check_room v n n) → checked (check_run v c) ≡ checked (slots_refusal v c n)
    unfolding slots_refusal
    after_room r =
        last (check_run v c) ∙ passed (check_room v n n) (check_run v c ∷ []) r
        ∙ passed (refusal v) (check_room v n n ∷ check_run v c ∷ []) g

pub kept : (v : View) (c table : List ℕ) (x : Refusal) → Err x ≡ checked (slots_refusal v c (length table)) → table ≡ slots_in v c table
unfolding slots_in unless
kept v c table x e = rw (refused (slots_refusal v c (length table)) x e).1 refl

module _ (s : Set) (k : Columns) (p : Prepared s k) (c table : List ℕ) (g : Ok tt ≡ checked (refusal (view s)))
    (r : Ok tt ≡ checked (check_room (view s) (length table) (length table))) where
  pub after_checks : checked (check_run (view_of k) c) ≡ checked (slots_refusal (view s) c (length table))
  after_checks = ap (λ v. checked (check_run v c)) p.same ∙ after_room (view s) c (length table) g r

  pub made : (l : List ℕ) (n : ℕ) → Ok tt ≡ checked (slots_refusal (view s) c (length table)) → n ≡ span (view s)
      → (n ≤ length table → l ≡ map (slot_at (view_of k).policy c) (from 0 n) ++ drop n table) → l ≡ slots_in (view s) c table
  unfolding slots_in unless table_of
  made l n e q f =
      let room = room-good (view s) (length table) (length table) (passes (check_room (view s) (length table) (length table)) r) in
      f (omega (arith, room.0, q))
      ∙ rw (q, p.same) (sym (rw (passes (slots_refusal (view s) c (length table)) e) refl))
