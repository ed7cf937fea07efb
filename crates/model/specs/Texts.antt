-- Document 01, "Plan text and program": the form of the text.
--   decimal n       == the number n in decimal;  digit d: the byte of a digit
--   fields l        == the fields l on a line;  line l: the numbers l on a line
--   job_numbers j   == what the line of job j says;  level_number l: the number of a level
--   text_of s       == the text of the set s: its three sections;  jobs_of s: its jobs
--   InForm s        == the constraints on counts and numbers, and nothing in the room
--   TextOf s t      == t is the text of the set s, and is of the form
--   WellFormed t    == t is of the form;  Opening q: some well-formed text begins with q
--   Place t n       == n is the length of the longest prefix of t that some well-formed text also begins with
--   Reads t r       == what the reader answers for the text t
use Rattle.std.specs.Prelude.{ℕ, zero, suc, ◌+◌, ◌/◌, ◌%◌, ◌≤◌, ◌≡◌, cond, ◌⊎◌, eqb, ltb, length, take, List, [], ◌∷◌, ◌++◌, map}
use mathlib.Core.List.{flat_map}
use Rattle.model.specs.declared.Level.{Level}
use Rattle.model.specs.declared.Level.TheVariants.{Lo, Hi}
use Rattle.model.specs.declared.Job.{Job}
use Rattle.model.specs.declared.Set.{Set}
use Rattle.model.specs.declared.Reading.{Reading}
use Rattle.model.specs.Lists.{largest, cut}
use Rattle.model.specs.Sets.{blank, set, order_of}
use Rattle.model.specs.Refusals.{good}

-- "Numbers are decimal, .. without leading zeros." The first argument only bounds the recursion: from suc n on it makes no difference.
unfoldable pub digit : ℕ → ℕ
digit d = 48 + d

unfoldable pub spelled : ℕ → ℕ → List ℕ
spelled zero n = []
spelled (suc k) n = cond (ltb n 10) (digit n ∷ []) (spelled k (n / 10) ++ (digit (n % 10) ∷ []))

unfoldable pub decimal : ℕ → List ℕ
decimal n = spelled (suc n) n

-- "One space between, one LF after each line."
unfoldable pub fields : List (List ℕ) → List ℕ
fields [] = 10 ∷ []
fields (x ∷ []) = x ++ (10 ∷ [])
fields (x ∷ y ∷ l) = x ++ (32 ∷ fields (y ∷ l))

unfoldable pub line : List ℕ → List ℕ
line l = fields (map decimal l)

-- "Each job has a line `A D level LO HI` (level 0 or 1)."
unfoldable pub level_number : Level → ℕ
level_number Lo = 0
level_number Hi = 1

unfoldable pub job_numbers : Job → List ℕ
job_numbers j = j.arrival ∷ j.deadline ∷ level_number j.level ∷ j.lo ∷ j.hi ∷ []

-- "An order has one line of numbers, and no line if its count is 0."
unfoldable pub order_line : List ℕ → List ℕ
order_line l = cond (eqb (length l) 0) [] (line l)

unfoldable pub jobs_of : Set → List Job
jobs_of s = cut blank s.count s.jobs

-- "Three sections in a fixed order, each after its count: jobs, LO order, HI order. A count stands on its own line."
unfoldable pub text_of : Set → List ℕ
text_of s =
    line (s.count ∷ []) ++ flat_map (λ j. line (job_numbers j)) (jobs_of s)
    ++ line (s.lo.count ∷ []) ++ order_line (order_of s Lo)
    ++ line (s.hi.count ∷ []) ++ order_line (order_of s Hi)

-- "In the form itself the first count is 1 to 64, the second equals it, and the third equals the number of jobs with level 1."
unfoldable pub ones : List Job → ℕ
ones [] = 0
ones (j ∷ l) = level_number j.level + ones l

-- "Numbers are .. 0 to 65,535." "Room beyond a count is no part of the set: .. the reader leaves 0 there (level LO)."
pub record InForm (s : Set) : Type 0 where
  pub first : (1 ≤ s.count) × (s.count ≤ 64)
  pub second : s.lo.count ≡ s.count
  pub third : s.hi.count ≡ ones (jobs_of s)
  pub jobs : largest (λ x. x) (flat_map job_numbers (jobs_of s)) ≤ 65535
  pub orders : largest (λ x. x) (order_of s Lo ++ order_of s Hi) ≤ 65535
  pub room : s ≡ set (jobs_of s) (order_of s Lo) (order_of s Hi)

abbrev pub TextOf : Set → List ℕ → Type 0
TextOf s t = InForm s × (t ≡ text_of s)

abbrev pub WellFormed : List ℕ → Type 0
WellFormed t = (s : Set) × TextOf s t

-- 1: "The plan text is not of the form below. Length of the longest prefix that some well-formed text also begins with."
abbrev pub Opening : List ℕ → Type 0
Opening q = (rest : List ℕ) × WellFormed (q ++ rest)

pub record Place (t : List ℕ) (n : ℕ) : Type 0 where
  pub prefix : n ≤ length t
  pub begins : Opening (take n t)
  pub longest : (m : ℕ) → m ≤ length t → Opening (take m t) → m ≤ n

-- "A set read .. come[s] back all 0."
unfoldable pub no_set : Set
no_set = set [] [] []

-- a text that is of the form, and one that is not
pub record Accepts (t : List ℕ) (r : Reading) : Type 0 where
  pub refusal : r.refusal ≡ good
  pub set : TextOf r.set t

pub record Refuses (t : List ℕ) (r : Reading) : Type 0 where
  pub form : WellFormed t → ⊥
  pub number : r.refusal.number ≡ 1
  pub place : Place t r.refusal.place
  pub set : r.set ≡ no_set

abbrev pub Reads : List ℕ → Reading → Type 0
Reads t r = Accepts t r ⊎ Refuses t r
