-- Where a `?` leaves a function.
--   exit  == what is answered there, where the error is the one given
-- Assumes nothing.
use mathlib.Core.Path.{◌≡◌, refl}
use Rattle.std.proofs.lemmas.Result.{err_from_is_err_and}
use Rattle.std.specs.Prelude.{Result, Err, IsErrAnd}

pub exit : {T E : Type 0} (r : Result T E) (e : E) → IsErrAnd r (λ d. d ≡ e) → r ≡ Err e
exit r e h = let p = err_from_is_err_and r h in rw (p.1, p.2) refl
