-- The form of the plan text, as data that can be scanned byte by byte (tools of the proof: what a text means is in model).
--   Piece             == what reading one part gives: a number and what is left behind it, or what is left where it stuck
--   begins, grows     == a byte may be the first digit of a number; it may go on with one
--   more, number      == a number read on; a number read, with the byte behind it
--   Form              == done with a set; a given byte, then the rest; a number, then the rest given the number
--   scan f t          == the set that the text t gives by the form f, or what is left of t where it stuck
--   bytes, count      == given bytes, then the rest; a count that is determined, on its own line
--   row, jobs, order  == a line of numbers, the largest that each may be given; the lines of jobs; an order after its count
--   sections, plan    == the form behind the first count; the form of a plan text
--   answered t x      == the reader's answer to the text t, where its scan gives x
use Rattle.std.specs.Prelude.{ℕ, zero, suc, ◌+◌, ◌-◌, ◌*◌, Bool, cond, ◌&&◌, List, [], ◌∷◌, ◌++◌, eqb, leb, ltb, length, get_or, replicate}
use Rattle.model.specs.declared.Level.{Level}
use Rattle.model.specs.declared.Level.TheVariants.{Lo, Hi}
use Rattle.model.specs.declared.Job.{Job}
use Rattle.model.specs.declared.Set.{Set}
use Rattle.model.specs.declared.Reading.{Reading}
use Rattle.model.specs.Sets.{job, set}
use Rattle.model.specs.Refusals.{good}
use Rattle.model.specs.Texts.{decimal, no_set, ones}

-- the space and the line feed
unfoldable pub space : ℕ
space = 32

unfoldable pub lf : ℕ
lf = 10

pub data Piece : Type 0 where
  got : ℕ → List ℕ → Piece
  short : List ℕ → Piece

-- the byte b is a digit, and the one-digit number lies between least and most
unfoldable pub begins : ℕ → ℕ → ℕ → Bool
begins least most b = leb 48 b && (leb b 57 && (leb least (b - 48) && leb (b - 48) most))

-- the byte b is a digit, and behind the digits of n, which is not 0, it makes a number of at most most
unfoldable pub grows : ℕ → ℕ → ℕ → Bool
grows most n b = leb 48 b && (leb b 57 && (ltb 0 n && leb (n * 10 + (b - 48)) most))

-- behind the digits of n: more of them, up to the byte c
unfoldable pub more : ℕ → ℕ → ℕ → List ℕ → Piece
more most c n [] = short []
more most c n (b ∷ t) = cond (eqb b c) (got n t) (cond (grows most n b) (more most c (n * 10 + (b - 48)) t) (short (b ∷ t)))

unfoldable pub number : ℕ → ℕ → ℕ → List ℕ → Piece
number least most c [] = short []
number least most c (b ∷ t) = cond (begins least most b) (more most c (b - 48) t) (short (b ∷ t))

pub data Form : Type 0 where
  done : Set → Form
  byte : ℕ → Form → Form
  field : ℕ → ℕ → ℕ → (ℕ → Form) → Form

pub data Scanned : Type 0 where
  read : Set → Scanned
  stuck : List ℕ → Scanned

-- what follows a part: the rest is scanned, or the scan is stuck where the part is
unfoldable pub then : Piece → (ℕ → List ℕ → Scanned) → Scanned
then (got n t) k = k n t
then (short t) k = stuck t

unfoldable pub scan : Form → List ℕ → Scanned
scan (done s) [] = read s
scan (done s) (b ∷ t) = stuck (b ∷ t)
scan (byte c f) [] = stuck []
scan (byte c f) (b ∷ t) = cond (eqb b c) (scan f t) (stuck (b ∷ t))
scan (field least most c k) t = then (number least most c t) (λ n u. scan (k n) u)

-- given bytes
unfoldable pub bytes : List ℕ → Form → Form
bytes [] f = f
bytes (b ∷ l) f = byte b (bytes l f)

-- a count that is determined, on its own line
unfoldable pub count : ℕ → Form → Form
count n f = bytes (decimal n ++ (lf ∷ [])) f

-- one line of numbers, each from 0 to the number given for it, behind the numbers l; no line where there is none
unfoldable pub row : List ℕ → List ℕ → (List ℕ → Form) → Form
row [] l k = k l
row (m ∷ []) l k = field 0 m lf (λ x. k (l ++ (x ∷ [])))
row (m ∷ o ∷ ms) l k = field 0 m space (λ x. row (o ∷ ms) (l ++ (x ∷ [])) k)

-- `A D level LO HI`
unfoldable pub job_limits : List ℕ
job_limits = 65535 ∷ 65535 ∷ 1 ∷ 65535 ∷ 65535 ∷ []

unfoldable pub level_of : ℕ → Level
level_of x = cond (eqb x 0) Lo Hi

unfoldable pub job_of : List ℕ → Job
job_of l = job (get_or l 0 0) (get_or l 1 0) (level_of (get_or l 2 0)) (get_or l 3 0) (get_or l 4 0)

-- n jobs more, behind the jobs js
unfoldable pub jobs : ℕ → List Job → (List Job → Form) → Form
jobs zero js k = k js
jobs (suc n) js k = row job_limits [] (λ l. jobs n (js ++ (job_of l ∷ [])) k)

-- an order of n entries, after its count
unfoldable pub order : ℕ → (List ℕ → Form) → Form
order n k = count n (row (replicate n 65535) [] k)

-- behind the first count
unfoldable pub sections : ℕ → Form
sections n = jobs n [] (λ js. order n (λ lo. order (ones js) (λ hi. done (set js lo hi))))

unfoldable pub plan : Form
plan = field 1 64 lf sections

-- the place is where what is left begins
unfoldable pub answered : List ℕ → Scanned → Reading
answered t (read s) = record { refusal = good; set = s }
answered t (stuck l) = record { refusal = record { number = 1; place = length t - length l }; set = no_set }
