-- Document 01, "Plan text and program": what the program prints.
--   refused_text r    == the answer to what is refused
--   fit_text v        == the answer to a fit set;  unfit_text v m c: to an unfit one, with miss m and running times c
--   judged_text v r   == the answer to the set of view v, judged r
--   printed q         == what the program prints for a text with reading q
--   Prints t l        == l is what the program prints for the text t
use Rattle.std.specs.Prelude.{ℕ, suc, ◌≡◌, ℤ, pos, negsuc, List, [], ◌∷◌, ◌++◌, map, Err as Refused, Ok as Found, Result}
use mathlib.Core.List.{flat_map}
use Rattle.model.specs.declared.Verdict.{Verdict}
use Rattle.model.specs.declared.Refusal.{Refusal}
use Rattle.model.specs.declared.Reading.{Reading}
use Rattle.model.specs.declared.Scenario.{Scenario}
use Rattle.model.specs.declared.Scenario.TheVariants.{Lo, Hi}
use Rattle.model.specs.declared.Miss.{Miss}
use Rattle.model.specs.declared.Verdict.TheVariants.{Fit, Unfit}
use Rattle.model.specs.Lists.{at}
use Rattle.model.specs.Sets.{View, view, members, span}
use Rattle.model.specs.Scenarios.{worst, margin}
use Rattle.model.specs.Answers.{unless, judged}
use Rattle.model.specs.Texts.{decimal, fields, line, Reads}

-- `FIT`, `UNFIT`, `REFUSED`
unfoldable pub fit_word : List ℕ
fit_word = 70 ∷ 73 ∷ 84 ∷ []

unfoldable pub unfit_word : List ℕ
unfit_word = 85 ∷ 78 ∷ fit_word

unfoldable pub refused_word : List ℕ
refused_word = 82 ∷ 69 ∷ 70 ∷ 85 ∷ 83 ∷ 69 ∷ 68 ∷ []

-- a margin, with `-` before it where it is negative
unfoldable pub signed : ℤ → List ℕ
signed (pos n) = decimal n
signed (negsuc n) = 45 ∷ decimal (suc n)

unfoldable pub scenario_number : Scenario → ℕ
scenario_number Lo = 0
scenario_number (Hi j) = j

-- "A refusal gives `REFUSED number place`."
unfoldable pub refused_text : Refusal → List ℕ
refused_text r = fields (refused_word ∷ decimal r.number ∷ decimal r.place ∷ [])

-- "FIT and the span; then for each job its number, worst finish and margin."
unfoldable pub fit_text : View → List ℕ
fit_text v =
    fields (fit_word ∷ decimal (span v) ∷ [])
    ++ flat_map (λ j. fields (decimal j ∷ decimal (worst v j) ∷ signed (margin v j) ∷ [])) (members v.policy)

-- "An unfit set gives `UNFIT scenario job finish` and one line of the N running times in job order."
unfoldable pub unfit_text : View → Miss → List ℕ → List ℕ
unfit_text v m c =
    fields (unfit_word ∷ decimal (scenario_number m.scenario) ∷ decimal m.job ∷ decimal m.finish ∷ [])
    ++ line (map (λ j. at c j 0) (members v.policy))

unfoldable pub judged_text : View → Result Verdict Refusal → List ℕ → List ℕ
judged_text v (Refused r) c = refused_text r
judged_text v (Found Fit) c = fit_text v
judged_text v (Found (Unfit m)) c = unfit_text v m c

unfoldable pub printed : Reading → List ℕ
printed q =
    unless q.refusal
    (refused_text q.refusal)
    (judged_text (view q.set) (judged (view q.set)).judgement (judged (view q.set)).times)

abbrev pub Prints : List ℕ → List ℕ → Type 0
Prints t l = (q : Reading) × Reads t q × (l ≡ printed q)
