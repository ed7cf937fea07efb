-- Running times out of their range, and the answer of a run that is refused.
--   outside v c  == the lowest job whose time in c lies outside its range; 0 where there is none
--   not_run r    == the answer of a run refused by r
use Rattle.std.specs.Prelude.{ℕ, not, List, None as Never, Result, Ok, Err}
use Rattle.model.specs.declared.Ran.{Ran}
use Rattle.model.specs.declared.Refusal.{Refusal}
use Rattle.model.specs.Lists.{first}
use Rattle.model.specs.Sets.{View, members}
use Rattle.model.specs.Runs.{in_range}
use Rattle.model.specs.Scenarios.{zeros}

unfoldable pub outside : View → List ℕ → ℕ
outside v c = first (λ j. not (in_range v c j)) (members v.policy)

unfoldable pub not_run : Refusal → Ran
not_run r = record { refusal = r; finishes = zeros; switch = Never }

-- a run, refused or not, as an answer
unfoldable pub answer_of : Result Ran Refusal → Ran
answer_of (Ok x) = x
answer_of (Err r) = not_run r
