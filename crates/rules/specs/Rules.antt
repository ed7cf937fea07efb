-- The rules of refusals 3, 4, 6 and 7, one job at a time.
--   untimely j        == the deadline is not after the arrival
--   unbudgeted j      == the budgets break their rule
--   may_stand v m j   == number j may stand in the order of mode m
--   marked ok j       == number j has a mark in ok, and it is true
--   nonzero k         == the number k, from 1; 0 says that there is none
use Rattle.std.specs.Prelude.{ℕ, zero, suc, Bool, false, cond, not, ◌&&◌, ◌||◌, List, eqb, leb, ltb, Option, Some, None}
use Rattle.model.specs.declared.Job.{Job}
use Rattle.model.specs.declared.Level.{Level}
use Rattle.model.specs.Lists.{at}
use Rattle.model.specs.Sets.{View, is_hi, critical}

unfoldable pub untimely : Job → Bool
untimely j = not (ltb j.arrival j.deadline)

unfoldable pub unbudgeted : Job → Bool
unbudgeted j = not (leb 1 j.lo && cond (is_hi j.level) (ltb j.lo j.hi) (eqb j.lo j.hi))

unfoldable pub may_stand : View → Level → ℕ → Bool
may_stand v m j = v.policy.part j && (not (is_hi m) || critical v.policy j)

unfoldable pub marked : List Bool → ℕ → Bool
marked ok j = at ok j false

unfoldable pub nonzero : ℕ → Option ℕ
nonzero zero = None
nonzero (suc k) = Some (suc k)
