-- What it means that these calls read a text, and print an answer to it. A premise is an answer that the function's own promise admits (specs/Texts
-- and specs/Promises); nothing is asked of the text, which is any list of numbers, of any length.
--   accepted_call                        == a text is accepted exactly if it is of the form, and then its set is read
--   one_set, back_call                   == a text has one set, and whoever writes a set down gets it back
--   refused_call                         == what is answered for any other text
--   short_text, short-place              == no text of the form is longer than 2,441 bytes, and no place lies behind them
--   first-bytes-read, first-bytes-shown  == the first 4,096 bytes of an input give the answer to the whole
--   some_reading, some_page              == every text has an answer, of either call
--   printed-..                           == what is printed, by the set read and the library's answers: no-form, refused, unfit, fit
--   says_fit, says_unfit, says_refused   == what the first word is worth
-- Assumes nothing.
use Rattle.std.specs.Prelude.{Err as Refused, Ok as Found}
use Prim.Native.Nat.{ℕ, ◌≤◌}
use mathlib.Core.Path.{◌≡◌, refl, ◌∙◌, ap}
use mathlib.Core.Bool.{true, false}
use mathlib.Core.List.{List, [], ◌∷◌, ◌++◌, map, flat_map}
use mathlib.Core.Logic.{⊎_elim, ◌↔◌}
use native.Mathlib.Omega.{arith}
use lib.IntN.{ℤ, pos}
use lib.ListN.{length, take}
use Rattle.model.specs.declared.Set.{Set}
use Rattle.model.specs.declared.Refusal.{Refusal}
use Rattle.model.specs.declared.Miss.{Miss}
use Rattle.model.specs.declared.Verdict.TheVariants.{Fit, Unfit}
use Rattle.model.specs.declared.Judged.{Judged}
use Rattle.model.specs.declared.Reading.{Reading as ReadingOf}
use Rattle.model.specs.Lists.{at, numbers}
use Rattle.model.specs.Sets.{view}
use Rattle.model.specs.Runs.{meets}
use Rattle.model.specs.Refusals.{good}
use Rattle.model.specs.Answers.{judged}
use Rattle.model.specs.Texts.{decimal, fields, line, TextOf, WellFormed, Place, no_set, Accepts, Refuses}
use Rattle.model.specs.Printed.{fit_word, unfit_word, refused_word, signed, scenario_number, refused_text, judged_text, printed}
use Rattle.theory.specs.Words.{Passes, RunOf}
use Rattle.forms.specs.Forms.{scan, plan, answered}
use Rattle.forms.proofs.Reader.{reads}
use Rattle.forms.proofs.Answers.{one_set as text_one_set}
use Rattle.forms.proofs.Lengths.{short_texts, opening_end, first_4096}
use Rattle.pages.specs.declared.Page.{Page}
use Rattle.pages.specs.Pages.{page}
use Rattle.ground.specs.Promises.{Judges, SpanOf, WorstFinishes, Margins}
use Rattle.ground.specs.Texts.{Reading, Answering, shown}
use Rattle.ground.proofs.Answers.{found_passes}
use Rattle.ground.proofs.Calls.{fit_call, missed_call}
use Rattle.ground.proofs.Printed.{shown_is, refused_text_lem, read_text, fit_word_lem, unfit_word_lem, refused_word_lem, fit_text_lem, times_text}

-- what is read ------------------------------------------------------------------------------------------------------------------------

-- Refusal 0 from the reader says that the text is of the form of document 01: every text of the form gets it, and no other does. The set that comes
-- with it is the one that the text is the text of, with nothing left in the room beyond its counts.
pub accepted_call : (t : List ℕ) (r : ReadingOf) → Reading t r → ((r.refusal ≡ good) ↔ WellFormed t) × (r.refusal ≡ good → TextOf r.set t)
accepted_call t r (κs, p, a) = ((λ g. (r.set, is_read g), not-refused), is_read)
  where
    refused_bad : Refuses t r → r.refusal ≡ good → ⊥
    refused_bad d g = unfold good in let e : r.refusal.number ≡ 0 = ap (λ (x : Refusal). x.number) g in omega (arith, e, d.number)

    is_read : r.refusal ≡ good → TextOf r.set t
    is_read g = ⊎_elim (λ (d : Accepts t r). d.set) (λ (d : Refuses t r). absurd (refused_bad d g)) a

    not-refused : WellFormed t → r.refusal ≡ good
    not-refused w = ⊎_elim (λ (d : Accepts t r). d.refusal) (λ (d : Refuses t r). absurd (d.form w)) a

-- A text is the text of one set only: two readers cannot understand it differently.
pub one_set : (t : List ℕ) (s u : Set) → TextOf s t → TextOf u t → s ≡ u
one_set = text_one_set

-- So whoever writes down a set in the form gets this set back, and no other, to the last entry.
pub back_call : (t : List ℕ) (r : ReadingOf) (s : Set) → Reading t r → TextOf s t → (r.refusal ≡ good) × (r.set ≡ s)
back_call t r s p w =
    let (iff, is) = accepted_call t r p in
    let g = iff.1 (s, w) in
    (g, text_one_set t r.set s (is g) w)

-- Any other text is refused with number 1, and its place is the length of the longest prefix that some well-formed text also begins with. No set
-- comes with it: every number is 0, the counts too.
pub refused_call : (t : List ℕ) (r : ReadingOf) → Reading t r → (WellFormed t → ⊥)
    → (r.refusal.number ≡ 1) × Place t r.refusal.place × (r.set ≡ no_set)
refused_call t r (κs, p, a) n =
    ⊎_elim (λ (d : Accepts t r). absurd (n (r.set, d.set))) (λ (d : Refuses t r). (d.number, d.place, d.set)) a

-- lengths -----------------------------------------------------------------------------------------------------------------------------

-- No text of the form is longer than 2,441 bytes; and a text that is refused is stuck within them.
pub short_text : (t : List ℕ) → WellFormed t → length t ≤ 2441
short_text = short_texts

pub short-place : (t : List ℕ) (n : ℕ) → Place t n → n ≤ 2441
short-place t n p = opening_end t n p.prefix p.begins

-- So a program that looks at no more than the first 4,096 bytes of an input reads what it would read of the whole, and prints what it would print,
-- however long the input is.
pub first-bytes-read : (t : List ℕ) (r : ReadingOf) → Reading t r ↔ Reading (take 4096 t) r
first-bytes-read t r = let (to, back) = first_4096 t r in (λ (κs, p, a). (κs, p, to a), λ (κs, p, a). (κs, p, back a))

pub first-bytes-shown : (t : List ℕ) (x : Page) → Answering t x ↔ Answering (take 4096 t) x
first-bytes-shown t x = (
  λ (κs, p, (q, a, e)). (κs, p, (q, (first_4096 t q).0 a, e)),
  λ (κs, p, (q, a, e)). (κs, p, (q, (first_4096 t q).1 a, e)),
)

-- Every text has an answer, of either call: what follows from one is never said of nothing.
pub some_reading : (t : List ℕ) → (r : ReadingOf) × Reading t r
some_reading t = (answered t (scan plan t), (([], tt), ((0, 0), 0), reads t))

pub some_page : (t : List ℕ) → (x : Page) × Answering t x
some_page t = let q = answered t (scan plan t) in (page (printed q), (([], tt), ((0, 0), 0), (q, reads t, refl)))

-- what is printed ---------------------------------------------------------------------------------------------------------------------

-- What is printed for a text is made of what was read of it, and of what the library's functions answer for the set read; nothing is left out, and
-- nothing is of the printer's own making. There are four cases: the text is not of the form; or its set is refused, unfit, or fit.
module _ (t : List ℕ) (q : ReadingOf) (x : Page) (a : Reading t q) (b : Answering t x) where
  -- The text is not of the form: `REFUSED 1 place`, with the place that was read.
  pub printed_no_form : (WellFormed t → ⊥) → shown x ≡ fields (refused_word ∷ decimal 1 ∷ decimal q.refusal.place ∷ [])
  printed_no_form n = shown_is t q x a b ∙ refused_text_lem q (refused_call t q a n).0

  module _ (w : WellFormed t) (r : Judged) (p : Judges q.set r) where
    judged-shown : shown x ≡ judged_text (view q.set) r.judgement r.times
    judged-shown = shown_is t q x a b ∙ read_text q r ((accepted_call t q a).0.1 w) p

    -- `judge` refuses the set: its refusal, and nothing else.
    pub printed-refused : (k : Refusal) → r.judgement ≡ Refused k → shown x ≡ fields (refused_word ∷ decimal k.number ∷ decimal k.place ∷ [])
    unfolding judged_text refused_text
    printed-refused k f = judged-shown ∙ ap (λ j. judged_text (view q.set) j r.times) f

    -- `judge` finds it unfit: the scenario, the job and the finish of its miss, and on a line the times that it returns, of jobs 1 to N.
    pub printed_unfit : (m : Miss) → r.judgement ≡ Found (Unfit m)
        → shown x
        ≡ fields (unfit_word ∷ decimal (scenario_number m.scenario) ∷ decimal m.job ∷ decimal m.finish ∷ [])
        ++ line (map (λ j. at r.times j 0) (numbers q.set.count))
    unfolding judged_text
    printed_unfit m f =
        judged-shown
        ∙ ap (λ j. judged_text (view q.set) j r.times) f
        ∙ times_text q.set (found_passes q.set r (Unfit m) p f).0 m r.times

    -- `judge` finds it fit: the span that `span_of` answers; and for each of the jobs 1 to N its number, and what `worst_finishes` and `margins`
    -- hold at its place.
    pub printed_fit : r.judgement ≡ Found Fit
        → (n : ℕ) → SpanOf q.set n → (c : List ℕ) → WorstFinishes q.set c → (m : List ℤ) → Margins q.set m
        → shown x
        ≡ fields (fit_word ∷ decimal n ∷ [])
        ++ flat_map (λ j. fields (decimal j ∷ decimal (at c j 0) ∷ signed (at m j (pos 0)) ∷ [])) (numbers q.set.count)
    unfolding judged_text
    printed_fit f n d c e m g =
        judged-shown
        ∙ ap (λ j. judged_text (view q.set) j r.times) f
        ∙ fit_text_lem q.set (found_passes q.set r Fit p f).0 n c m d e g

-- What the first word is worth, from the bytes that are read to the runs of the aircraft. What is printed begins with FIT if and only if the text is
-- the text of a set, this set passes the checks, and every run of it meets what it requires.
pub says_fit : (t : List ℕ) (x : Page) → Answering t x
    → (take 3 (shown x) ≡ fit_word) ↔ ((s : Set) × TextOf s t × Passes s × ((c : List ℕ) → RunOf s c → meets (view s) c ≡ true))
says_fit t x b =
    let (to, back) = fit_word_lem t x b in (
      λ f. let (s, w, i) = to f in let (h, all) = (fit_call s (judged (view s)) refl).0 i in (s, w, h, all),
      λ (s, w, h, all). back (s, w, (fit_call s (judged (view s)) refl).1 (h, all)),
    )

-- It begins with UNFIT if and only if the text is the text of a set, this set passes the checks, and some run of it does not meet what it requires.
pub says_unfit : (t : List ℕ) (x : Page) → Answering t x
    → (take 5 (shown x) ≡ unfit_word) ↔ ((s : Set) × TextOf s t × Passes s × ((c : List ℕ) × RunOf s c × (meets (view s) c ≡ false)))
says_unfit t x b =
    let (to, back) = unfit_word_lem t x b in (
      λ f. let (s, w, i) = to f in let (h, some) = (missed_call s (judged (view s)) refl).0 i in (s, w, h, some),
      λ (s, w, h, some). back (s, w, (missed_call s (judged (view s)) refl).1 (h, some)),
    )

-- It begins with REFUSED if and only if the text is not that of a set which passes the checks: either it is not of the form, or its set does not pass.
pub says_refused : (t : List ℕ) (x : Page) → Answering t x → (take 7 (shown x) ≡ refused_word) ↔ ((s : Set) → TextOf s t → Passes s → ⊥)
says_refused = refused_word_lem
