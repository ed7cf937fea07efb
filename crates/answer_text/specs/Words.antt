-- How the answers read.
--   refusal_words r   == `refused number place`, or `good`
--   miss_words m      == `UNFIT scenario job finish`;  verdict_words v: that, or `FIT`
--   judgement_words x == the verdict's words, or the refusal's
--   switch_words x    == the instant, or `never`;  gets_words x: the job, or `idle`
--   list_words text l == what text gives of each item, a space before each
--   of_jobs is_none values n == the values of jobs 1 to n, and all where one beyond them is something
--   table_words l     == a space and each entry, or ` nothing`; of more than 64 entries, which are written by their stretches, nothing is said
use Rattle.std.specs.Prelude.{ℕ, List, [], ◌∷◌, ◌++◌, Option, None, Some, Result, Ok, Err, codes, decimal, ◌&&◌, eqb, leb, cond, length, drop, take, Bool}
use Rattle.std.specs.List.{list_all}
use Rattle.std.specs.Fmt.{◌++?◌}
use Rattle.model.specs.declared.Refusal.{Refusal}
use Rattle.model.specs.declared.Miss.{Miss}
use Rattle.model.specs.declared.Verdict.{Verdict}
use Rattle.model.specs.declared.Verdict.TheVariants.{Fit, Unfit}
use Rattle.model.specs.Printed.{scenario_number}

abbrev pub refusal_words : Refusal → List ℕ
refusal_words r = cond (eqb r.number 0 && eqb r.place 0) (codes "good") (codes "refused " ++ (decimal r.number ++ (codes " " ++ decimal r.place)))

abbrev pub miss_words : Miss → List ℕ
miss_words m = codes "UNFIT " ++ (decimal (scenario_number m.scenario) ++ (codes " " ++ (decimal m.job ++ (codes " " ++ decimal m.finish))))

abbrev pub verdict_words : Verdict → List ℕ
verdict_words Fit = codes "FIT"
verdict_words (Unfit m) = miss_words m

abbrev pub judgement_words : Result Verdict Refusal → List ℕ
judgement_words (Ok v) = verdict_words v
judgement_words (Err r) = refusal_words r

abbrev pub switch_words : Option ℕ → List ℕ
switch_words None = codes "never"
switch_words (Some t) = decimal t

abbrev pub gets_words : Option ℕ → List ℕ
gets_words None = codes "idle"
gets_words (Some j) = decimal j

abbrev pub list_words : {A : Type 0} → (A → Option (List ℕ)) → List A → Option (List ℕ)
list_words text [] = Some []
list_words text (x ∷ xs) = Some (codes " ") ++? (text x ++? list_words text xs)

abbrev pub table_words : List ℕ → Option (List ℕ)
table_words l = cond (eqb (length l) 0) (Some (codes " nothing")) (cond (leb (length l) 64) (list_words (λ x. Some (decimal x)) l) None)

abbrev pub of_jobs : {A : Type 0} → (A → Bool) → List A → ℕ → List A
of_jobs is_none values n = cond (list_all is_none (drop n values)) (take n values) values
