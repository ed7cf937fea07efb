-- What the result of a check says of the refusal that it is.
--   passes        == Ok: the refusal is good
--   refused       == Err: it is the refusal, which is not good
--   first_good    == a first refusal that is good has place 0;  refusal_good: so has a set's;  told-checked: so a check's result, told as an answer, is the refusal
-- Assumes nothing.
use mathlib.Core.Path.{◌≡◌, refl, sym}
use mathlib.Core.Bool.{true, false}
use mathlib.Core.List.{List, [], ◌∷◌}
use Rattle.std.proofs.Common.{Ok, Err}
use Rattle.model.specs.declared.Refusal.{Refusal}
use Rattle.model.specs.Sets.{View}
use Rattle.model.specs.Refusals.{good, is_good, told, checked, first_of, checks, refusal}
use Rattle.laws.proofs.Bools.{split, clash}

pub passes : (r : Refusal) → Ok (tt {0}) ≡ checked r → is_good r ≡ true
unfolding checked
passes r e = split (is_good r) (λ t. t) (λ f. let z = rw f at e in cc)

pub refused : (r x : Refusal) → Err x ≡ checked r → (x ≡ r) × (is_good r ≡ false)
unfolding checked
refused r x e = split (is_good r) (λ t. let z = rw t at e in cc) (λ f. let z = rw f at e in (cc, f))

pub first_good : (l : List Refusal) → is_good (first_of l) ≡ true → first_of l ≡ good
unfolding first_of
first_good [] h = refl
first_good (x ∷ l) h = split (is_good x) (λ t. rw t (first_good l (rw t at h))) (λ f. clash (rw f at h) f)

pub refusal_good : (v : View) → is_good (refusal v) ≡ true → refusal v ≡ good
unfolding refusal
refusal_good v = first_good (checks v)

pub told-checked : (v : View) → told (checked (refusal v)) ≡ refusal v
unfolding checked told
told-checked v = split (is_good (refusal v)) (λ t. rw t (sym (refusal_good v t))) (λ f. rw f refl)
