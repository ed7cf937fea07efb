-- Two sets that differ only beyond their counts (`Alike`) get the same answers from each call, and the same in the room that is lent to it. So what
-- is left over in an unused place of a set, from an earlier set or from a fault, changes no verdict, no margin and no table.
--   FN-alike  == so of the function FN
-- Assumes nothing.
use Prim.Native.Nat.{ℕ}
use mathlib.Core.Path.{◌≡◌, sym, ◌∙◌}
use mathlib.Core.List.{List}
use lib.IntN.{ℤ}
use lib.ListN.{length}
use Rattle.model.specs.declared.Set.{Set}
use Rattle.model.specs.declared.Refusal.{Refusal}
use Rattle.model.specs.declared.Ran.{Ran}
use Rattle.model.specs.declared.Judged.{Judged}
use Rattle.model.specs.declared.Assessed.{Assessed}
use Rattle.model.specs.Sets.{span}
use Rattle.model.specs.Refusals.{refusal}
use Rattle.model.specs.Answers.{judged, assessed, finish_rows, worsts, margins, ran, slots_refusal, slots_in, tables_refusal, lo_table_in, hi_table_in}
use Rattle.theory.specs.Words.{Alike}
use Rattle.theory.proofs.Results.{room_is_no_part}
use Rattle.ground.specs.Promises.{RefusalOf, SpanOf, Assesses, Judges, FinishRows, RowsRefusal, WorstFinishes, Margins, Executes, Slots, MakesTables}
use Rattle.ground.proofs.OneAnswer.{one}

module _ (s t : Set) (h : Alike s t) where
  -- The refusal, with its place.
  pub refusal_of_alike : (x y : Refusal) → RefusalOf s x → RefusalOf t y → x ≡ y
  refusal_of_alike x y p q = one p (q ∙ sym (room_is_no_part refusal s t h))

  -- The span.
  pub span_of_alike : (x y : ℕ) → SpanOf s x → SpanOf t y → x ≡ y
  span_of_alike x y p q = one p (q ∙ sym (room_is_no_part span s t h))

  -- The judgement, and the times beside it.
  pub judge_alike : (x y : Judged) → Judges s x → Judges t y → x ≡ y
  judge_alike x y p q = one p (q ∙ sym (room_is_no_part judged s t h))

  -- With them, where it is fit, the worst finishes.
  pub assess_alike : (x y : Assessed) → Assesses s x → Assesses t y → x ≡ y
  assess_alike x y p q = one p (q ∙ sym (room_is_no_part assessed s t h))

  -- The finish rows, and the refusal beside them.
  pub finish_rows_alike : (x y : List (List ℕ)) → FinishRows s x → FinishRows t y → x ≡ y
  finish_rows_alike x y p q = one p (q ∙ sym (room_is_no_part finish_rows s t h))

  pub rows_refusal_alike : (x y : Refusal) → RowsRefusal s x → RowsRefusal t y → x ≡ y
  rows_refusal_alike x y p q = one p (q ∙ sym (room_is_no_part refusal s t h))

  -- The worst finishes and the margins.
  pub worst_finishes_alike : (x y : List ℕ) → WorstFinishes s x → WorstFinishes t y → x ≡ y
  worst_finishes_alike x y p q = one p (q ∙ sym (room_is_no_part worsts s t h))

  pub margins_alike : (x y : List ℤ) → Margins s x → Margins t y → x ≡ y
  margins_alike x y p q = one p (q ∙ sym (room_is_no_part margins s t h))

  -- The execution of a run with the same times.
  pub execute_alike : (c : List ℕ) (x y : Ran) → Executes s c x → Executes t c y → x ≡ y
  execute_alike c x y p q = one p (q ∙ sym (room_is_no_part (λ v. ran v c) s t h))

  -- The slots of a run with the same times, where the room lent holds the same.
  pub slots_alike : (c l : List ℕ) (x y : Refusal) (after_x after_y : List ℕ) → Slots s c l x after_x → Slots t c l y after_y
      → (x ≡ y) × (after_x ≡ after_y)
  slots_alike c l x y after_x after_y p q = (
    one p.2.0 (q.2.0 ∙ sym (room_is_no_part (λ v. slots_refusal v c (length l)) s t h)),
    one p.2.1 (q.2.1 ∙ sym (room_is_no_part (λ v. slots_in v c l) s t h)),
  )

  -- Both tables, where the room lent holds the same: the answer, and what each lent slice holds afterwards.
  pub make_tables_alike : (lo hi : List ℕ) (x y : Refusal) (lo_x hi_x lo_y hi_y : List ℕ)
      → MakesTables s lo hi x lo_x hi_x → MakesTables t lo hi y lo_y hi_y → (x ≡ y) × (lo_x ≡ lo_y) × (hi_x ≡ hi_y)
  make_tables_alike lo hi x y lo_x hi_x lo_y hi_y p q = (
    one p.3.0 (q.3.0 ∙ sym (room_is_no_part (λ v. tables_refusal v (length lo) (length hi)) s t h)),
    one p.3.1.0 (q.3.1.0 ∙ sym (room_is_no_part (λ v. lo_table_in v lo hi) s t h)),
    one p.3.1.1 (q.3.1.1 ∙ sym (room_is_no_part (λ v. hi_table_in v lo hi) s t h)),
  )
