-- What is printed of the jobs.
--   job_lines v l   == the lines of the jobs l of the view v
use Rattle.std.specs.Prelude.{ℕ, List}
use mathlib.Core.List.{flat_map}
use Rattle.model.specs.Sets.{View}
use Rattle.model.specs.Scenarios.{worst}
use Rattle.pages.specs.Lines.{job_line}

unfoldable pub job_lines : View → List ℕ → List ℕ
job_lines v l = flat_map (λ j. job_line j (worst v j) (v.deadline j)) l
