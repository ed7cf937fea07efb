-- What the functions of the text promise, as relations between what a call is given and what it answers: each is the function's own promise, as in
-- Promises.
--   Reading t x          == `read` may answer x for the bytes t, by its promise
--   Answering t x        == `answer` of the printing may answer the page x for the bytes t
--   shown x              == what the page x says is to be printed: the first bytes of its array, as many as its length
--   Shows p l            == the page p, lent to be read, may show the bytes l, by the promise of `shown`
--   ScenarioNumber x n   == `from` may tell the scenario x as n
--   Numbering t a l m b x  == `number`, at the place a, from l to m, with the byte b behind it;  Expecting, Ending: given bytes
--   LevelNumber, JobOf, NoJob, NoSet, MadeOf, RefusedAt   == those of the readings
--   EmptyPage, WithByte, WithBytes, WithDecimal, WithField, WithMargin, RefusedPage, MissPage, WithJob   == those of the pages
use Rattle.std.specs.Prelude.{ℕ, List, take, Result}
use contract.Lifetimes.{Lfts}
use Rattle.model.specs.declared.Level.{Level}
use Rattle.model.specs.declared.Job.{Job}
use Rattle.model.specs.declared.Set.{Set}
use Rattle.model.specs.declared.Refusal.{Refusal}
use Rattle.model.specs.declared.Scenario.{Scenario}
use Rattle.model.specs.declared.Miss.{Miss}
use Rattle.model.specs.declared.Reading.{Reading as ReadingOf}
use Rattle.fields.specs.declared.Got.{Got}
use Rattle.fields.specs.declared.Stuck.{Stuck}
use Rattle.pages.specs.declared.Page.{Page}
use Rattle.fields.proofs.number.Reads.{Post as number}
use Rattle.fields.proofs.expect.Reads.{Post as expect}
use Rattle.fields.proofs.ending.Reads.{Post as ending}
use Rattle.readings.proofs.level_number.Reads.{Post as level_number}
use Rattle.readings.proofs.job_of.Reads.{Post as job_of}
use Rattle.readings.proofs.no_job.Reads.{Post as no_job}
use Rattle.readings.proofs.no_set.Reads.{Post as no_set}
use Rattle.readings.proofs.answer.Reads.{Post as made}
use Rattle.readings.proofs.refused.Reads.{Post as refused}
use Rattle.plan_text.proofs.read.Reads.{Post as read}
use Rattle.model.proofs.U16FromScenario.from.Reads.{Post as scenario_number}
use Rattle.pages.proofs.Page.empty.Reads.{Post as empty_page}
use Rattle.pages.proofs.Page.with_byte.Reads.{Post as with_byte}
use Rattle.pages.proofs.Page.with_bytes.Reads.{Post as with_bytes}
use Rattle.pages.proofs.Page.with_decimal.Reads.{Post as with_decimal}
use Rattle.pages.proofs.Page.with_field.Reads.{Post as with_field}
use Rattle.pages.proofs.Page.with_margin.Reads.{Post as with_margin}
use Rattle.pages.proofs.Page.refused.Reads.{Post as refused_page}
use Rattle.pages.proofs.Page.missed.Reads.{Post as miss_page}
use Rattle.pages.proofs.Page.with_job.Reads.{Post as with_job}
use Rattle.pages.proofs.Page.shown.Reads.{Post as page_shown}
use Rattle.printing.proofs.answer.Reads.{Post as answer}
use Rattle.ground.specs.Promises.{Spot, lent, slice}

abbrev pub Reading : List ℕ → ReadingOf → Type 0
Reading t x = (κs : Lfts 1) × (p : Spot) × read κs (slice p t, tt) x (slice p t, tt)

abbrev pub Answering : List ℕ → Page → Type 0
Answering t x = (κs : Lfts 1) × (p : Spot) × answer κs (slice p t, tt) x (slice p t, tt)

abbrev pub shown : Page → List ℕ
shown x = take x.length x.bytes

abbrev pub Numbering : List ℕ → ℕ → ℕ → ℕ → ℕ → Result Got Stuck → Type 0
Numbering t a l m b x = (κs : Lfts 1) × (p : Spot) × number κs (slice p t, (a, (l, (m, (b, tt))))) x (slice p t, (a, (l, (m, (b, tt)))))

abbrev pub Expecting : List ℕ → ℕ → ℕ → Result ℕ Stuck → Type 0
Expecting t a b x = (κs : Lfts 1) × (p : Spot) × expect κs (slice p t, (a, (b, tt))) x (slice p t, (a, (b, tt)))

abbrev pub Ending : List ℕ → ℕ → ℕ → Result ℕ Stuck → Type 0
Ending t a b x = (κs : Lfts 1) × (p : Spot) × ending κs (slice p t, (a, (b, tt))) x (slice p t, (a, (b, tt)))

abbrev pub LevelNumber : Level → ℕ → Type 0
LevelNumber l x = level_number tt (l, tt) x (l, tt)

abbrev pub JobOf : List ℕ → Job → Type 0
JobOf l x = (κs : Lfts 1) × (p : Spot) × job_of κs (slice p l, tt) x (slice p l, tt)

abbrev pub NoJob : Job → Type 0
NoJob x = no_job tt tt x tt

abbrev pub NoSet : Set → Type 0
NoSet x = no_set tt tt x tt

abbrev pub MadeOf : ℕ → ℕ → Set → ReadingOf → Type 0
MadeOf n k s x = made tt (n, (k, (s, tt))) x (n, (k, (s, tt)))

abbrev pub RefusedAt : ℕ → ReadingOf → Type 0
RefusedAt k x = refused tt (k, tt) x (k, tt)

abbrev pub EmptyPage : Page → Type 0
EmptyPage x = empty_page tt tt x tt

abbrev pub WithByte : Page → ℕ → Page → Type 0
WithByte p b x = with_byte tt (p, (b, tt)) x (p, (b, tt))

abbrev pub WithBytes : Page → List ℕ → Page → Type 0
WithBytes p t x = (κs : Lfts 1) × (q : Spot) × with_bytes κs (p, (slice q t, tt)) x (p, (slice q t, tt))

abbrev pub WithDecimal : Page → ℕ → Page → Type 0
WithDecimal p n x = with_decimal tt (p, (n, tt)) x (p, (n, tt))

abbrev pub WithField : Page → ℕ → Page → Type 0
WithField p n x = with_field tt (p, (n, tt)) x (p, (n, tt))

abbrev pub WithMargin : Page → ℕ → ℕ → Page → Type 0
WithMargin p d w x = with_margin tt (p, (d, (w, tt))) x (p, (d, (w, tt)))

abbrev pub RefusedPage : Refusal → Page → Type 0
RefusedPage r x = refused_page tt (r, tt) x (r, tt)

abbrev pub MissPage : Miss → Page → Type 0
MissPage m x = miss_page tt (m, tt) x (m, tt)

abbrev pub WithJob : Page → ℕ → ℕ → ℕ → Page → Type 0
WithJob p j w d x = with_job tt (p, (j, (w, (d, tt)))) x (p, (j, (w, (d, tt))))

abbrev pub Shows : Page → List ℕ → Type 0
Shows p l = (κs : Lfts 1) × (q r : Spot) × page_shown κs (lent q p, tt) (slice r l) (lent q p, tt)

abbrev pub ScenarioNumber : Scenario → ℕ → Type 0
ScenarioNumber x n = scenario_number tt (x, tt) n (x, tt)
