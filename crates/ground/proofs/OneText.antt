-- The promises of the functions of the text admit one answer only, too: of any bytes, and wherever they stand.
--   FN-one  == the promise of the function FN admits one answer
-- Assumes nothing.
use Prim.Native.Nat.{ℕ}
use mathlib.Core.Path.{◌≡◌, sym, ◌∙◌, ap}
use mathlib.Core.List.{List}
use Rattle.std.specs.Prelude.{Result}
use Rattle.model.specs.declared.Level.{Level}
use Rattle.model.specs.declared.Job.{Job}
use Rattle.model.specs.declared.Set.{Set}
use Rattle.model.specs.declared.Refusal.{Refusal}
use Rattle.model.specs.declared.Scenario.{Scenario}
use Rattle.model.specs.declared.Miss.{Miss}
use Rattle.model.specs.declared.Reading.{Reading as ReadingOf}
use Rattle.model.specs.Printed.{printed}
use Rattle.forms.proofs.Answers.{one_reading}
use Rattle.fields.specs.declared.Got.{Got}
use Rattle.fields.specs.declared.Stuck.{Stuck}
use Rattle.fields.proofs.Unique.{one_field, one_step}
use Rattle.pages.specs.declared.Page.{Page}
use Rattle.pages.specs.Pages.{page}
use Rattle.ground.specs.Texts.{Reading, Answering, Numbering, Expecting, Ending}
use Rattle.ground.specs.Texts.{LevelNumber, JobOf, NoJob, NoSet, MadeOf, RefusedAt}
use Rattle.ground.specs.Texts.{EmptyPage, WithByte, WithBytes, WithDecimal, WithField, WithMargin, RefusedPage, MissPage, WithJob, Shows, ScenarioNumber}
use Rattle.ground.proofs.OneAnswer.{one}

-- plan_text and printing ------------------------------------------------------------------------------------------------------------

-- What is read of a text: its set, or where it is stuck.
pub read_one : (t : List ℕ) (x y : ReadingOf) → Reading t x → Reading t y → x ≡ y
read_one t x y p q = one_reading t x y p.2 q.2

-- What is printed for a text: every byte of the page, and its length.
pub answer_one : (t : List ℕ) (x y : Page) → Answering t x → Answering t y → x ≡ y
answer_one t x y (κs, p, (r, a, e)) (κs', p', (q, b, f)) = e ∙ ap (λ u. page (printed u)) (one_reading t r q a b) ∙ sym f

-- fields ----------------------------------------------------------------------------------------------------------------------------

-- A number at a place of a text, and given bytes there.
pub number_one : (t : List ℕ) (a l m b : ℕ) (x y : Result Got Stuck) → Numbering t a l m b x → Numbering t a l m b y → x ≡ y
number_one t a l m b x y p q = one_field t a _ x y p.2 q.2

pub expect_one : (t : List ℕ) (a b : ℕ) (x y : Result ℕ Stuck) → Expecting t a b x → Expecting t a b y → x ≡ y
expect_one t a b x y p q = one_step t a _ x y p.2 q.2

pub ending_one : (t : List ℕ) (a b : ℕ) (x y : Result ℕ Stuck) → Ending t a b x → Ending t a b y → x ≡ y
ending_one t a b x y p q = one_step t a _ x y p.2 q.2

-- readings --------------------------------------------------------------------------------------------------------------------------

-- The number of a level, the job of a line, and the job and the set with nothing in them.
pub level_number_one : (l : Level) (x y : ℕ) → LevelNumber l x → LevelNumber l y → x ≡ y
level_number_one l x y p q = one p q

pub job_of_one : (l : List ℕ) (x y : Job) → JobOf l x → JobOf l y → x ≡ y
job_of_one l x y p q = one p.2 q.2

pub no_job_one : (x y : Job) → NoJob x → NoJob y → x ≡ y
no_job_one x y p q = one p q

pub no_set_one : (x y : Set) → NoSet x → NoSet y → x ≡ y
no_set_one x y p q = one p q

-- A reading made of its parts, and that of a text that is refused.
pub made_one : (n k : ℕ) (s : Set) (x y : ReadingOf) → MadeOf n k s x → MadeOf n k s y → x ≡ y
made_one n k s x y p q = one p q

pub refused_one : (k : ℕ) (x y : ReadingOf) → RefusedAt k x → RefusedAt k y → x ≡ y
refused_one k x y p q = one p q

-- pages -----------------------------------------------------------------------------------------------------------------------------

-- A page, with what is put behind what it holds.
module _ (x y : Page) where
  pub empty_page_one : EmptyPage x → EmptyPage y → x ≡ y
  empty_page_one p q = one p q

  pub with_byte_one : (l : Page) (b : ℕ) → WithByte l b x → WithByte l b y → x ≡ y
  with_byte_one l b p q = one p q

  pub with_bytes_one : (l : Page) (t : List ℕ) → WithBytes l t x → WithBytes l t y → x ≡ y
  with_bytes_one l t p q = one p.2 q.2

  pub with_decimal_one : (l : Page) (n : ℕ) → WithDecimal l n x → WithDecimal l n y → x ≡ y
  with_decimal_one l n p q = one p q

  pub with_field_one : (l : Page) (n : ℕ) → WithField l n x → WithField l n y → x ≡ y
  with_field_one l n p q = one p q

  pub with_margin_one : (l : Page) (d w : ℕ) → WithMargin l d w x → WithMargin l d w y → x ≡ y
  with_margin_one l d w p q = one p q

  pub refused_page_one : (r : Refusal) → RefusedPage r x → RefusedPage r y → x ≡ y
  refused_page_one r p q = one p q

  pub miss_page_one : (m : Miss) → MissPage m x → MissPage m y → x ≡ y
  miss_page_one m p q = one p q

  pub with_job_one : (l : Page) (j w d : ℕ) → WithJob l j w d x → WithJob l j w d y → x ≡ y
  with_job_one l j w d p q = one p q

-- What a page shows.
pub shown_one : (p : Page) (l m : List ℕ) → Shows p l → Shows p m → l ≡ m
shown_one p l m a b = one a.3 b.3

-- The number of a scenario.
pub scenario_number_one : (x : Scenario) (m n : ℕ) → ScenarioNumber x m → ScenarioNumber x n → m ≡ n
scenario_number_one x m n p q = one p q
