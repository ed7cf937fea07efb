-- The lines that the program prints, as the code makes them (what the program prints is said in model).
--   rest l          == what follows the first field of a line: the fields l, each behind a space, and the LF
--   job_line j w d  == the line of job j with worst finish w and deadline d
--   miss_line m     == the first line of the answer to an unfit set
use Rattle.std.specs.Prelude.{ℕ, List, [], ◌∷◌, ◌++◌, pos, ◌-ℤ◌}
use Rattle.model.specs.declared.Miss.{Miss}
use Rattle.model.specs.Texts.{decimal, fields}
use Rattle.model.specs.Printed.{unfit_word, signed, scenario_number}

unfoldable pub rest : List (List ℕ) → List ℕ
rest [] = 10 ∷ []
rest (x ∷ l) = (32 ∷ x) ++ rest l

unfoldable pub job_line : ℕ → ℕ → ℕ → List ℕ
job_line j w d = fields (decimal j ∷ decimal w ∷ signed (pos d -ℤ pos w) ∷ [])

unfoldable pub miss_line : Miss → List ℕ
miss_line m = fields (unfit_word ∷ decimal (scenario_number m.scenario) ∷ decimal m.job ∷ decimal m.finish ∷ [])
