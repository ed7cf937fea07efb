-- Checks one after the other, as `?` has them.
--   taken, passed, last   == what a list of checks comes to, where the first refuses, where it passes, and where it is alone
--   told_first            == told as an answer it is the first refusal
-- Assumes nothing.
use Rattle.std.specs.Prelude.{Ok, Err}
use mathlib.Core.Path.{◌≡◌, refl, sym, ◌∙◌, ap}
use mathlib.Core.List.{List, [], ◌∷◌}
use Rattle.model.specs.declared.Refusal.{Refusal}
use Rattle.model.specs.Refusals.{good, is_good, told, checked, first_of}
use Rattle.laws.proofs.Bools.{split}
use Rattle.checks.proofs.Checked.{passes, refused, first_good}

module _ (r : Refusal) where
  pub taken : (x : Refusal) (l : List Refusal) → Err x ≡ checked r → Err x ≡ checked (first_of (r ∷ l))
  unfolding first_of
  taken x l e = e ∙ ap checked (sym (rw (refused r x e).1 refl))

  pub passed : (l : List Refusal) → Ok tt ≡ checked r → checked (first_of l) ≡ checked (first_of (r ∷ l))
  unfolding first_of
  passed l e = ap checked (sym (rw (passes r e) refl))

  pub last : checked r ≡ checked (first_of (r ∷ []))
  unfolding first_of checked is_good good
  last = split (is_good r) (λ t. rw t refl) (λ f. rw f (rw f refl))

pub told_first : (l : List Refusal) → told (checked (first_of l)) ≡ first_of l
unfolding checked told
told_first l = split (is_good (first_of l)) (λ t. rw t (sym (first_good l t))) (λ f. rw f refl)
