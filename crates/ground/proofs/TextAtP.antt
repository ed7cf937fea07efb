-- Set P of document 01, from its text to what is printed for it. The premises of Texts are met, and the bytes are the document's.
--   text_of_P        == the text of P, byte by byte;  lines_of_P: the four lines that the document prints for it
--   P_text           == the first is the text of P, and of the form;  P-form: so is that of P with another deadline for job 1
--   read_at_P        == `read` may answer P for it, and nothing else
--   printed_at_P     == the four lines are printed for it, and nothing else;  answers_at_P: the answers of the library that they are made of
--   others_at_P      == what is printed for P with deadlines 7 and 0: `UNFIT 2 1 8` and the times 4 3 2, and `REFUSED 3 1`
--   longer_at_P      == one line feed behind the text of P, and it is not of the form: `REFUSED 1 47`
-- Assumes nothing.
use Prim.Native.Nat.{ℕ, ◌≤◌}
use mathlib.Core.Path.{◌≡◌, refl, sym, ◌∙◌, ap}
use mathlib.Core.List.{List, [], ◌∷◌, ◌++◌, flat_map}
use mathlib.Core.Logic.{inl, inr}
use native.Mathlib.Omega.{arith}
use lib.IntN.{pos}
use lib.ListN.{replicate}
use contract.Lifetimes.{Lfts}
use Rattle.model.specs.declared.Set.{Set}
use Rattle.model.specs.declared.Reading.{Reading as ReadingOf}
use Rattle.model.specs.Lists.{at, from, numbers, only, first, any, mem, least, total, largest, cut}
use Rattle.model.specs.Sets.{is_hi, job, blank, set, job_at, order_of, count_of, view, members, critical, span}
use Rattle.model.specs.Runs.{time, start, overruns, mode_now, ready, pick, slot_now, bump, account, step, state_at, mode_at, slot_at, done_at}
use Rattle.model.specs.Runs.{finish_of, switch_of, dropped_by, outcome, mark, required_after, outcome_in, switch_in, required, late, missed}
use Rattle.model.specs.Scenarios.{places, zeros, hi_jobs, scenarios, lo_times, turn, hi_time, times_of, finish_in, late_in, search, verdict}
use Rattle.model.specs.Scenarios.{times_beside, row, hi_row, rows, worst, margin}
use Rattle.model.specs.Refusals.{good, is_good, applies, placed, first_of, lowest, fault_from, fault, check_count, time_wrong, check_time}
use Rattle.model.specs.Refusals.{budget_wrong, check_budget, check_span, check_lo_order, is_hi_job, check_hi_order, checks, refusal}
use Rattle.model.specs.Answers.{unless, judged, worsts, margins}
use Rattle.model.specs.Texts.{digit, spelled, decimal, fields, line, level_number, job_numbers, order_line, jobs_of, text_of, ones}
use Rattle.model.specs.Texts.{InForm, TextOf, WellFormed, Place, no_set}
use Rattle.model.specs.Printed.{fit_word, unfit_word, refused_word, signed, scenario_number, refused_text, fit_text, unfit_text, judged_text, printed}
use Rattle.model.proofs.Table.{P, jobs_of_P}
use Rattle.forms.specs.Forms.{scan, plan, sections, jobs, order, count, bytes, row as form_row, job_limits}
use Rattle.forms.specs.Forms.{then, number, more, begins, grows, space, lf, job_of, level_of}
use Rattle.forms.specs.Forms.Scanned.{stuck}
use Rattle.forms.proofs.Reader.{stuck-not, stuck-place}
use Rattle.pages.specs.declared.Page.{Page}
use Rattle.pages.specs.Pages.{page}
use Rattle.ground.specs.Promises.{Spot, SpanOf, WorstFinishes, Margins}
use Rattle.ground.specs.Texts.{Reading, Answering, shown}
use Rattle.ground.proofs.OneText.{read_one}
use Rattle.ground.proofs.Printed.{shown_is}
use Rattle.ground.proofs.Texts.{printed_no_form}

-- 3 / 0 10 1 2 4 / 1 6 1 1 3 / 0 6 0 2 2 / 3 / 2 3 1 / 2 / 2 1
abbrev pub text_of_P : List ℕ
text_of_P =
    51 ∷ 10 ∷
    48 ∷ 32 ∷ 49 ∷ 48 ∷ 32 ∷ 49 ∷ 32 ∷ 50 ∷ 32 ∷ 52 ∷ 10 ∷
    49 ∷ 32 ∷ 54 ∷ 32 ∷ 49 ∷ 32 ∷ 49 ∷ 32 ∷ 51 ∷ 10 ∷
    48 ∷ 32 ∷ 54 ∷ 32 ∷ 48 ∷ 32 ∷ 50 ∷ 32 ∷ 50 ∷ 10 ∷
    51 ∷ 10 ∷
    50 ∷ 32 ∷ 51 ∷ 32 ∷ 49 ∷ 10 ∷
    50 ∷ 10 ∷
    50 ∷ 32 ∷ 49 ∷ 10 ∷
    []

-- FIT 10 / 1 8 2 / 2 4 2 / 3 3 3
abbrev pub lines_of_P : List ℕ
lines_of_P =
    70 ∷ 73 ∷ 84 ∷ 32 ∷ 49 ∷ 48 ∷ 10 ∷
    49 ∷ 32 ∷ 56 ∷ 32 ∷ 50 ∷ 10 ∷
    50 ∷ 32 ∷ 52 ∷ 32 ∷ 50 ∷ 10 ∷
    51 ∷ 32 ∷ 51 ∷ 32 ∷ 51 ∷ 10 ∷
    []

P-form : (d : ℕ) → d ≤ 65535 → InForm (P d)
unfolding P jobs_of_P job set cut blank jobs_of order_of flat_map job_numbers level_number ones largest
P-form d h =
    record {
      first = (omega arith, omega arith);
      second = refl;
      third = refl;
      jobs = omega arith;
      orders = omega arith;
      room = refl;
    }

pub P_text : TextOf (P 10) text_of_P
unfolding P jobs_of_P cut job blank set order_of flat_map digit spelled decimal fields line level_number job_numbers order_line jobs_of text_of
P_text = (P-form 10 (omega arith), refl)

-- what is read of the text of a set in the form
abbrev whole : Set → ReadingOf
whole s = record { refusal = good; set = s }

abbrev here : (Lfts 1) × Spot
here = (([], tt), ((0, 0), 0))

reading : (s : Set) (t : List ℕ) → TextOf s t → Reading t (whole s)
reading s t w = (here.0, here.1, inl (record { refusal = refl; set = w }))

prints : (s : Set) (t l : List ℕ) → TextOf s t → printed (whole s) ≡ l → Answering t (page l) × ((x : Page) → Answering t x → shown x ≡ l)
prints s t l w e = (
  (here.0, here.1, (whole s, inl (record { refusal = refl; set = w }), ap page (sym e))),
  λ x b. shown_is t (whole s) x (reading s t w) b ∙ e,
)

P-printed : (printed (whole (P 10)) ≡ lines_of_P)
    × (printed (whole (P 7)) ≡ 85 ∷ 78 ∷ 70 ∷ 73 ∷ 84 ∷ 32 ∷ 50 ∷ 32 ∷ 49 ∷ 32 ∷ 56 ∷ 10 ∷ 52 ∷ 32 ∷ 51 ∷ 32 ∷ 50 ∷ 10 ∷ [])
    × (printed (whole (P 0)) ≡ 82 ∷ 69 ∷ 70 ∷ 85 ∷ 83 ∷ 69 ∷ 68 ∷ 32 ∷ 51 ∷ 32 ∷ 49 ∷ 10 ∷ [])
unfolding
    P jobs_of_P at from numbers only first any mem least total largest cut is_hi job blank set job_at order_of count_of view members
    critical span time start overruns mode_now ready pick slot_now bump account step state_at mode_at slot_at done_at finish_of switch_of dropped_by outcome mark
    required_after outcome_in switch_in required late missed places zeros hi_jobs scenarios lo_times turn hi_time times_of finish_in late_in search verdict
    times_beside row hi_row rows worst margin good is_good applies placed first_of lowest fault_from fault check_count time_wrong check_time budget_wrong
    check_budget check_span check_lo_order is_hi_job check_hi_order checks refusal unless judged
    flat_map digit spelled decimal fields line
    fit_word unfit_word refused_word signed scenario_number refused_text fit_text unfit_text judged_text printed
P-printed = (refl, refl, refl)

-- P is read of its text, whoever reads it.
pub read_at_P : Reading text_of_P (whole (P 10)) × ((r : ReadingOf) → Reading text_of_P r → r ≡ whole (P 10))
read_at_P = let a = reading (P 10) text_of_P P_text in (a, λ r b. read_one text_of_P r (whole (P 10)) b a)

-- The document's four lines are printed for it, whoever prints them.
pub printed_at_P : Answering text_of_P (page lines_of_P) × ((x : Page) → Answering text_of_P x → shown x ≡ lines_of_P)
printed_at_P = prints (P 10) text_of_P lines_of_P P_text P-printed.0

-- They are made of these answers, with that of `judge` in AtP.
pub answers_at_P : SpanOf (P 10) 10 × WorstFinishes (P 10) (8 ∷ 4 ∷ 3 ∷ replicate 61 0) × Margins (P 10) (pos 2 ∷ pos 2 ∷ pos 3 ∷ replicate 61 (pos 0))
unfolding
    P jobs_of_P at from numbers only first any mem least total largest cut is_hi job blank set job_at order_of count_of view members
    critical span time start overruns mode_now ready pick slot_now bump account step state_at mode_at slot_at done_at finish_of switch_of dropped_by outcome mark
    outcome_in places zeros hi_jobs lo_times turn hi_time times_of finish_in row hi_row rows worst margin
    good is_good applies placed first_of lowest fault_from fault check_count time_wrong check_time budget_wrong check_budget check_span check_lo_order
    is_hi_job check_hi_order checks refusal unless worsts margins
answers_at_P = (refl, refl, refl)

-- P with deadline 7 for job 1 is unfit, and with deadline 0 it is refused.
pub others_at_P : ((x : Page) → Answering (text_of (P 7)) x
    → shown x ≡ 85 ∷ 78 ∷ 70 ∷ 73 ∷ 84 ∷ 32 ∷ 50 ∷ 32 ∷ 49 ∷ 32 ∷ 56 ∷ 10 ∷ 52 ∷ 32 ∷ 51 ∷ 32 ∷ 50 ∷ 10 ∷ [])
    × ((x : Page) → Answering (text_of (P 0)) x → shown x ≡ 82 ∷ 69 ∷ 70 ∷ 85 ∷ 83 ∷ 69 ∷ 68 ∷ 32 ∷ 51 ∷ 32 ∷ 49 ∷ 10 ∷ [])
others_at_P = (
  (prints (P 7) (text_of (P 7)) _ (P-form 7 (omega arith), refl) P-printed.1).1,
  (prints (P 0) (text_of (P 0)) _ (P-form 0 (omega arith), refl) P-printed.2).1,
)

-- One line feed behind it, and the text is not of the form: the longest prefix that can be gone on with is the text of P itself.
abbrev longer : List ℕ
longer = text_of_P ++ (10 ∷ [])

longer-stuck : scan plan longer ≡ stuck (10 ∷ [])
unfolding
    scan then number more begins grows plan sections jobs order count bytes form_row job_limits space lf job_of level_of
    spelled decimal digit job ones level_number
longer-stuck = refl

pub longer_at_P : (WellFormed longer → ⊥) × Place longer 47
    × ((x : Page) → Answering longer x → shown x ≡ 82 ∷ 69 ∷ 70 ∷ 85 ∷ 83 ∷ 69 ∷ 68 ∷ 32 ∷ 49 ∷ 32 ∷ 52 ∷ 55 ∷ 10 ∷ [])
unfolding fields refused_word decimal spelled digit
longer_at_P =
    let r : ReadingOf = record { refusal = record { number = 1; place = 47 }; set = no_set } in
    let n = stuck-not longer (10 ∷ []) longer-stuck in
    let p = stuck-place longer (10 ∷ []) longer-stuck in
    let a : Reading longer r = (here.0, here.1, inr (record { form = n; number = refl; place = p; set = refl })) in
    (n, p, λ x b. printed_no_form longer r x a b n)
