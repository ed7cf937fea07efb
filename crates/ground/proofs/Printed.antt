-- What is printed, by the answers of the library's functions.
--   shown_is                     == what a page shows for a text is what document 01 prints for what was read of it
--   refused_text_lem             == of a text that is refused;  read_text: of one that is not, by the judgement of its set
--   fit_word_lem, unfit_word_lem == what begins with FIT, or with UNFIT, is the answer to the text of a set that is judged so
--   refused_word_lem             == and what begins with REFUSED is the answer to any other text
--   flat_cong                    == lists joined are the same where each of them is
--   worst_is, margin_is          == the worst finish and the margin of a job stand at its place in what the functions return
--   fit_text_lem                 == the answer to a fit set, by the span, the worst finishes and the margins;  times_text: that to an unfit one, by the times
-- Assumes nothing.
use Rattle.std.specs.Prelude.{Err as Refused, Ok as Found, Result}
use Prim.Native.Nat.{ℕ}
use mathlib.Core.Path.{◌≡◌, refl, sym, ◌∙◌, ap, subst}
use mathlib.Core.Bool.{true, false, cond}
use mathlib.Core.List.{List, [], ◌∷◌, ◌++◌, map, flat_map}
use mathlib.Core.Logic.{⊎_elim, ◌↔◌}
use native.Mathlib.Omega.{arith}
use lib.IntN.{ℤ, pos}
use lib.ListN.{take, get_or}
use Rattle.model.specs.declared.Refusal.{Refusal}
use Rattle.model.specs.declared.Set.{Set}
use Rattle.model.specs.declared.Miss.{Miss}
use Rattle.model.specs.declared.Judged.{Judged}
use Rattle.model.specs.declared.Verdict.{Verdict}
use Rattle.model.specs.declared.Verdict.TheVariants.{Fit, Unfit}
use Rattle.model.specs.declared.Reading.{Reading as ReadingOf}
use Rattle.model.specs.Lists.{at, numbers, mem}
use Rattle.model.specs.Sets.{View, view, members, span}
use Rattle.model.specs.Runs.{time}
use Rattle.model.specs.Scenarios.{zeros, verdict, times_beside, worst, margin}
use Rattle.model.specs.Refusals.{good, is_good, refusal}
use Rattle.model.specs.Answers.{unless, judged, worsts, margins}
use Rattle.model.specs.Texts.{decimal, fields, line, TextOf, Accepts, Refuses}
use Rattle.model.specs.Printed.{fit_word, unfit_word, refused_word, signed, scenario_number, refused_text, fit_text, unfit_text, judged_text, printed}
use Rattle.theory.specs.Words.{Passes}
use Rattle.theory.proofs.Views.{sound_of}
use Rattle.laws.proofs.Bools.{split}
use Rattle.laws.proofs.Lists.{mem_head, mem_tail}
use Rattle.laws.proofs.Places.{members_e}
use Rattle.laws.proofs.Sums.{at-numbers}
use Rattle.laws.proofs.Turns.{place-time}
use Rattle.forms.proofs.Answers.{one_set, one_reading}
use Rattle.pages.specs.declared.Page.{Page}
use Rattle.printing.proofs.JobLaws.{good-members}
use Rattle.printing.proofs.Whole.{shown as page_shows}
use Rattle.ground.specs.Texts.{Reading, Answering, shown}
use Rattle.ground.proofs.Answers.{good_passes, judged-good}

pub shown_is : (t : List ℕ) (q : ReadingOf) (x : Page) → Reading t q → Answering t x → shown x ≡ printed q
shown_is t q x (κs, p, a) (κs', p', (r, b, e)) =
    page_shows t r x b e ∙ ap printed (one_reading t r q b a)

pub refused_text_lem : (q : ReadingOf) → q.refusal.number ≡ 1 → printed q ≡ fields (refused_word ∷ decimal 1 ∷ decimal q.refusal.place ∷ [])
unfolding printed unless is_good refused_text
refused_text_lem q e = rw e refl

pub read_text : (q : ReadingOf) (r : Judged) → q.refusal ≡ good → r ≡ judged (view q.set)
    → printed q ≡ judged_text (view q.set) r.judgement r.times
unfolding printed unless is_good good
read_text q r g e =
    let t : is_good q.refusal ≡ true = ap is_good g in
    rw t (ap (λ (x : Judged). judged_text (view q.set) x.judgement x.times) (sym e))

-- the first word ----------------------------------------------------------------------------------------------------------------------

-- no two of them begin with the same byte
refused_not_fit : (l m : List ℕ) → take 3 (fields (refused_word ∷ l ∷ m ∷ [])) ≡ fit_word → ⊥
unfolding fields refused_word fit_word
refused_not_fit l m e = let z : ◌≡◌ {A = ℕ} 82 70 = ap (λ k. get_or k 0 0) e in omega (arith, z)

refused_not_unfit : (l m : List ℕ) → take 5 (fields (refused_word ∷ l ∷ m ∷ [])) ≡ unfit_word → ⊥
unfolding fields refused_word unfit_word
refused_not_unfit l m e = let z : ◌≡◌ {A = ℕ} 82 85 = ap (λ k. get_or k 0 0) e in omega (arith, z)

fit_to : (v : View) (x : Result Verdict Refusal) (c : List ℕ) → take 3 (judged_text v x c) ≡ fit_word → x ≡ Found Fit
fit_to v (Refused r) c e = unfold judged_text refused_text in absurd (refused_not_fit (decimal r.number) (decimal r.place) e)
fit_to v (Found Fit) c e = refl
fit_to v (Found (Unfit m)) c e =
    unfold judged_text unfit_text fields unfit_word fit_word in
    let z : ◌≡◌ {A = ℕ} 85 70 = ap (λ k. get_or k 0 0) e in absurd (omega (arith, z))

fit_from : (v : View) (x : Result Verdict Refusal) (c : List ℕ) → x ≡ Found Fit → take 3 (judged_text v x c) ≡ fit_word
unfolding judged_text fit_text fields fit_word
fit_from v x c e = ap (λ y. take 3 (judged_text v y c)) e

abbrev IsUnfit : Result Verdict Refusal → Type 0
IsUnfit x = (m : Miss) × (x ≡ Found (Unfit m))

unfit_to : (v : View) (x : Result Verdict Refusal) (c : List ℕ) → take 5 (judged_text v x c) ≡ unfit_word → IsUnfit x
unfit_to v (Refused r) c e = unfold judged_text refused_text in absurd (refused_not_unfit (decimal r.number) (decimal r.place) e)
unfit_to v (Found Fit) c e =
    unfold judged_text fit_text fields unfit_word fit_word in
    let z : ◌≡◌ {A = ℕ} 70 85 = ap (λ k. get_or k 0 0) e in absurd (omega (arith, z))
unfit_to v (Found (Unfit m)) c e = (m, refl)

unfit_from : (v : View) (x : Result Verdict Refusal) (c : List ℕ) → IsUnfit x → take 5 (judged_text v x c) ≡ unfit_word
unfolding judged_text unfit_text fields unfit_word fit_word
unfit_from v x c (m, e) = ap (λ y. take 5 (judged_text v y c)) e

-- a word of n bytes that no refusal begins with, and of the others exactly those that are so
module _ (n : ℕ) (word : List ℕ) (Is : Result Verdict Refusal → Type 0)
    (refuses : (l m : List ℕ) → take n (fields (refused_word ∷ l ∷ m ∷ [])) ≡ word → ⊥)
    (iff : (v : View) (x : Result Verdict Refusal) (c : List ℕ) → (take n (judged_text v x c) ≡ word) ↔ Is x) where
  says : (t : List ℕ) (x : Page) → Answering t x → (take n (shown x) ≡ word) ↔ ((s : Set) × TextOf s t × Is (judged (view s)).judgement)
  says t x (κs, p, (q, a, e)) =
      let shows = shown_is t q x (κs, p, a) (κs, p, (q, a, e)) in
      ⊎_elim
      (λ (d : Accepts t q).
      let r = judged (view q.set) in
      let z = ap (take n) (shows ∙ read_text q r d.refusal refl) in
      let is = iff (view q.set) r.judgement r.times in (
        λ f. (q.set, d.set, is.0 (sym z ∙ f)),
        λ (s, w, i). z ∙ is.1 (subst (λ u. Is (judged (view u)).judgement) (one_set t s q.set w d.set) i),
      ))
      (λ (d : Refuses t q). (
        λ f. absurd (refuses (decimal 1) (decimal q.refusal.place) (sym (ap (take n) (shows ∙ refused_text_lem q d.number)) ∙ f)),
        λ (s, w, i). absurd (d.form (s, w)),
      ))
      a

pub fit_word_lem : (t : List ℕ) (x : Page) → Answering t x
    → (take 3 (shown x) ≡ fit_word) ↔ ((s : Set) × TextOf s t × ((judged (view s)).judgement ≡ Found Fit))
fit_word_lem = says 3 fit_word (λ x. x ≡ Found Fit) refused_not_fit (λ v x c. (fit_to v x c, fit_from v x c))

pub unfit_word_lem : (t : List ℕ) (x : Page) → Answering t x
    → (take 5 (shown x) ≡ unfit_word) ↔ ((s : Set) × TextOf s t × IsUnfit (judged (view s)).judgement)
unfit_word_lem = says 5 unfit_word IsUnfit refused_not_unfit (λ v x c. (unfit_to v x c, unfit_from v x c))

refused-begins : (l m : List ℕ) → take 7 (fields (refused_word ∷ l ∷ m ∷ [])) ≡ refused_word
unfolding fields refused_word
refused-begins l m = refl

found-not-refused : (v : View) (x : Verdict) (c : List ℕ) → take 7 (judged_text v (Found x) c) ≡ refused_word → ⊥
unfolding judged_text fit_text unfit_text fields refused_word unfit_word fit_word
found-not-refused v Fit c e = let z : ◌≡◌ {A = ℕ} 70 82 = ap (λ k. get_or k 0 0) e in omega (arith, z)
found-not-refused v (Unfit m) c e = let z : ◌≡◌ {A = ℕ} 85 82 = ap (λ k. get_or k 0 0) e in omega (arith, z)

judged_bad : (v : View) → is_good (refusal v) ≡ false → judged v ≡ record { judgement = Refused (refusal v); times = zeros }
unfolding judged unless
judged_bad v f = rw f refl

pub refused_word_lem : (t : List ℕ) (x : Page) → Answering t x → (take 7 (shown x) ≡ refused_word) ↔ ((s : Set) → TextOf s t → Passes s → ⊥)
unfolding is_good good judged_text refused_text
refused_word_lem t x (κs, p, (q, a, e)) =
    let shows = shown_is t q x (κs, p, a) (κs, p, (q, a, e)) in
    let v = view q.set in
    ⊎_elim
    (λ (d : Accepts t q). (
      λ f s w h.
          let g = ap is_good (subst Passes (one_set t s q.set w d.set) h) in
          let c = times_beside v (verdict v) in
          let z = read_text q (record { judgement = Found (verdict v); times = c }) d.refusal (sym (judged-good v g)) in
          found-not-refused v (verdict v) c (sym (ap (take 7) (shows ∙ z)) ∙ f),
      λ f.
          split (is_good (refusal v))
          (λ g. absurd (f q.set d.set (good_passes q.set g)))
          (λ g.
          let z = read_text q (record { judgement = Refused (refusal v); times = zeros }) d.refusal (sym (judged_bad v g)) in
          ap (take 7) (shows ∙ z) ∙ refused-begins (decimal (refusal v).number) (decimal (refusal v).place)),
    ))
    (λ (d : Refuses t q). (
      λ f s w h. d.form (s, w),
      λ f. ap (take 7) (shows ∙ refused_text_lem q d.number) ∙ refused-begins (decimal 1) (decimal q.refusal.place),
    ))
    a

-- a fit set and an unfit one ----------------------------------------------------------------------------------------------------------

flat_cong : (f g : ℕ → List ℕ) (l : List ℕ) → ((j : ℕ) → mem j l ≡ true → f j ≡ g j) → flat_map f l ≡ flat_map g l
unfolding flat_map
flat_cong f g [] h = refl
flat_cong f g (x ∷ l) h =
    ap (λ y. y ++ flat_map f l) (h x (mem_head x l)) ∙ ap (λ y. g x ++ y) (flat_cong f g l (λ j m. h j (mem_tail j x l m)))

module _ (s : Set) (h : Passes s) where
  passed : is_good (refusal (view s)) ≡ true
  unfolding is_good good
  passed = ap is_good h

  members_all : members (view s).policy ≡ numbers s.count
  unfolding numbers
  members_all = good-members s passed

  worst_is : (w : List ℕ) → w ≡ worsts (view s) → (j : ℕ) → (view s).policy.part j ≡ true → at w j 0 ≡ worst (view s) j
  unfolding worsts unless time
  worst_is w e j a =
      ap (λ l. at l j 0) e ∙ rw passed (place-time (view s) (worst (view s)) j (sound_of s h).ordered a)

  margin_is : (m : List ℤ) → m ≡ margins (view s) → (j : ℕ) → (view s).policy.part j ≡ true → at m j (pos 0) ≡ margin (view s) j
  unfolding margins unless
  margin_is m e j a =
      let v = view s in
      let r = (sound_of s h).ordered.room j a in
      ap (λ l. at l j (pos 0)) e
      ∙ rw passed (at-numbers (λ i. cond (v.policy.part i) (margin v i) (pos 0)) 64 j (pos 0) r.0 r.1 ∙ rw a refl)

  pub fit_text_lem : (n : ℕ) (w : List ℕ) (m : List ℤ) → n ≡ span (view s) → w ≡ worsts (view s) → m ≡ margins (view s)
      → fit_text (view s)
      ≡ fields (fit_word ∷ decimal n ∷ [])
      ++ flat_map (λ j. fields (decimal j ∷ decimal (at w j 0) ∷ signed (at m j (pos 0)) ∷ [])) (numbers s.count)
  unfolding fit_text
  fit_text_lem n w m p e f =
      let v = view s in
      let job : ℕ → ℕ → ℤ → List ℕ = λ j x y. fields (decimal j ∷ decimal x ∷ signed y ∷ []) in
      let each : flat_map (λ j. job j (worst v j) (margin v j)) (members v.policy)
      ≡ flat_map (λ j. job j (at w j 0) (at m j (pos 0))) (members v.policy) =
      flat_cong (λ j. job j (worst v j) (margin v j)) (λ j. job j (at w j 0) (at m j (pos 0))) (members v.policy)
      (λ j k.
      let a = members_e v.policy j k in
      ap (λ x. job j x (margin v j)) (sym (worst_is w e j a)) ∙ ap (job j (at w j 0)) (sym (margin_is m f j a))) in
      ap (λ x. fields (fit_word ∷ decimal x ∷ []) ++ flat_map (λ j. job j (worst v j) (margin v j)) (members v.policy)) (sym p)
      ∙ ap (λ l. fields (fit_word ∷ decimal n ∷ []) ++ l)
      (each ∙ ap (flat_map (λ j. job j (at w j 0) (at m j (pos 0)))) members_all)

  pub times_text : (m : Miss) (c : List ℕ)
      → unfit_text (view s) m c
      ≡ fields (unfit_word ∷ decimal (scenario_number m.scenario) ∷ decimal m.job ∷ decimal m.finish ∷ [])
      ++ line (map (λ j. at c j 0) (numbers s.count))
  unfolding unfit_text
  times_text m c =
      ap
      (λ l.
      fields (unfit_word ∷ decimal (scenario_number m.scenario) ∷ decimal m.job ∷ decimal m.finish ∷ [])
      ++ line (map (λ j. at c j 0) l))
      members_all
