-- Each public promise admits one answer only, and one content of each slice that is lent to be written. So a library that keeps the promises has no
-- choice: two of them cannot be told apart by what they answer, nor by what they leave in the caller's room. This holds for every set and every
-- number, refused or not, and wherever lent slices stand.
--   one     == two values that are equal to a third are equal
--   FN-one  == the promise of the function FN admits one answer
-- Assumes nothing.
use Rattle.std.specs.Prelude.{Option, Result}
use Rattle.std.specs.declared.clone.Clone.{Ghosts as Clones}
use denote.RattleType.{RattleType}
use denote.Param.Laws.{Laws, IsCopy}
use mir.Syntax.{Dict}
use Prim.Native.Nat.{ℕ}
use mathlib.Core.Path.{◌≡◌, sym, ◌∙◌}
use mathlib.Core.Bool.{Bool}
use mathlib.Core.List.{List}
use lib.IntN.{ℤ}
use Rattle.model.specs.declared.Level.{Level}
use Rattle.model.specs.declared.Job.{Job}
use Rattle.model.specs.declared.Order.{Order}
use Rattle.model.specs.declared.Set.{Set}
use Rattle.model.specs.declared.Check.{Check}
use Rattle.model.specs.declared.Refusal.{Refusal}
use Rattle.model.specs.declared.Ran.{Ran}
use Rattle.model.specs.declared.Judged.{Judged}
use Rattle.model.specs.declared.Assessed.{Assessed}
use Rattle.columns.specs.declared.Columns.{Columns}
use Rattle.ground.specs.Promises.{IsHi, Untimely, Unbudgeted, Places, Members, FaultOf, Held, Refuses, Told, Checked, Checks, RefusalOf, SpanOf, ColumnsOf, Orders, ChecksRoom, Assesses, Judges, FinishRows, RowsRefusal, WorstFinishes, Margins, Executes, Slots}
use Rattle.ground.specs.Promises.{Picks, Parts, PartRefusal, MakesTables, InRange, Outruns, IsEnabled, Misses, Worse, MarginOf}

pub one : {A : Type 0} {x y z : A} → x ≡ z → y ≡ z → x ≡ y
one p q = p ∙ sym q

-- model -------------------------------------------------------------------------------------------------------------------------------

-- What a list of any type T holds for a job.
pub held_one : (T : RattleType) (laws : Laws T) (copy : IsCopy T) (clones : Clones T.Denot) (dict : Dict)
    (l : List T.Denot) (j : ℕ) (x y : Option T.Denot) → Held T laws copy clones dict l j x → Held T laws copy clones dict l j y → x ≡ y
held_one T laws copy clones dict l j x y p q = one p.2 q.2

-- rules -------------------------------------------------------------------------------------------------------------------------------

-- Whether a level is HI, and whether a job's deadline or its budgets break their rule.
pub is_hi_one : (l : Level) (x y : Bool) → IsHi l x → IsHi l y → x ≡ y
is_hi_one l x y p q = one p q

pub untimely_one : (j : Job) (x y : Bool) → Untimely j x → Untimely j y → x ≡ y
untimely_one j x y p q = one p q

pub unbudgeted_one : (j : Job) (x y : Bool) → Unbudgeted j x → Unbudgeted j y → x ≡ y
unbudgeted_one j x y p q = one p q

-- How many of n jobs have a place, and the jobs of a set that have one.
pub places_one : (n x y : ℕ) → Places n x → Places n y → x ≡ y
places_one n x y p q = one p q

pub members_one : (s : Set) (x y : List Job) → Members s x → Members s y → x ≡ y
members_one s x y p q = one p.3.0 q.3.0

-- The first position of an order whose entry is not marked or repeats.
pub fault_of_one : (ok : List Bool) (o : Order) (x y : Option ℕ) → FaultOf ok o x → FaultOf ok o y → x ≡ y
fault_of_one ok o x y p q = one p.3 q.3

-- checks and columns ------------------------------------------------------------------------------------------------------------------

-- The result of the checks: nothing, or the refusal.
pub refuses_one : (c : Check) (k : Option ℕ) (x y : Result (Unit {0}) Refusal) → Refuses c k x → Refuses c k y → x ≡ y
refuses_one c k x y p q = one p q

pub told_one : (r : Result (Unit {0}) Refusal) (x y : Refusal) → Told r x → Told r y → x ≡ y
told_one r x y p q = one p q

pub checked_one : (r : Refusal) (x y : Result (Unit {0}) Refusal) → Checked r x → Checked r y → x ≡ y
checked_one r x y p q = one p q

pub check_one : (s : Set) (x y : Result (Unit {0}) Refusal) → Checks s x → Checks s y → x ≡ y
check_one s x y p q = one p.2 q.2

-- The refusal of a set by checks 2 to 7: its number, and its place.
pub refusal_of_one : (s : Set) (x y : Refusal) → RefusalOf s x → RefusalOf s y → x ≡ y
refusal_of_one s x y p q = one p q

-- The span.
pub span_of_one : (s : Set) (x y : ℕ) → SpanOf s x → SpanOf s y → x ≡ y
span_of_one s x y p q = one p q

-- The columns of a set, which the runs and the analysis look at.
pub columns_of_one : (s : Set) (x y : Columns) → ColumnsOf s x → ColumnsOf s y → x ≡ y
columns_of_one s x y p q = one p q

-- What the order of a mode holds.
pub order_one : (k : Columns) (m : Level) (x y : List ℕ) → Orders k m x → Orders k m y → x ≡ y
order_one k m x y p q = one p.3 q.3

-- Whether lent tables are long enough.
pub check_room_one : (s : Set) (lo hi : ℕ) (x y : Result (Unit {0}) Refusal) → ChecksRoom s lo hi x → ChecksRoom s lo hi y → x ≡ y
check_room_one s lo hi x y p q = one p.2 q.2

-- verdicts, runs, picks and parts ----------------------------------------------------------------------------------------------------

-- Who is picked, from what the three lent slices hold: a job, or idle.
pub pick_one : (o a : List ℕ) (d : List Bool) (t : ℕ) (x y : Option ℕ) → Picks o a d t x → Picks o a d t y → x ≡ y
pick_one o a d t x y p q = one p.4 q.4

-- The judgement, and the times beside it.
pub judge_one : (s : Set) (x y : Judged) → Judges s x → Judges s y → x ≡ y
judge_one s x y p q = one p q

-- With them, where it is fit, the worst finishes.
pub assess_one : (s : Set) (x y : Assessed) → Assesses s x → Assesses s y → x ≡ y
assess_one s x y p q = one p q

-- The finish rows: all 65, at each of their 64 places.
pub finish_rows_one : (s : Set) (x y : List (List ℕ)) → FinishRows s x → FinishRows s y → x ≡ y
finish_rows_one s x y p q = one p q

-- The refusal beside the rows, the worst finishes and the margins.
pub rows_refusal_one : (s : Set) (x y : Refusal) → RowsRefusal s x → RowsRefusal s y → x ≡ y
rows_refusal_one s x y p q = one p q

-- The worst finishes.
pub worst_finishes_one : (s : Set) (x y : List ℕ) → WorstFinishes s x → WorstFinishes s y → x ≡ y
worst_finishes_one s x y p q = one p q

-- The margins.
pub margins_one : (s : Set) (x y : List ℤ) → Margins s x → Margins s y → x ≡ y
margins_one s x y p q = one p q

-- The execution of one given run: the refusal, each job's finish, and the switch.
pub execute_one : (s : Set) (c : List ℕ) (x y : Ran) → Executes s c x → Executes s c y → x ≡ y
execute_one s c x y p q = one p q

-- The slots of one given run: the answer, and what the lent slice holds afterwards, written or not.
pub slots_one : (s : Set) (c l : List ℕ) (x y : Refusal) (after_x after_y : List ℕ)
    → Slots s c l x after_x → Slots s c l y after_y → (x ≡ y) × (after_x ≡ after_y)
slots_one s c l x y after_x after_y p q = (one p.2.0 q.2.0, one p.2.1 q.2.1)

-- Both tables: the answer, and what each lent slice holds afterwards, written or not.
pub make_tables_one : (s : Set) (lo hi : List ℕ) (x y : Refusal) (lo_x hi_x lo_y hi_y : List ℕ)
    → MakesTables s lo hi x lo_x hi_x → MakesTables s lo hi y lo_y hi_y → (x ≡ y) × (lo_x ≡ lo_y) × (hi_x ≡ hi_y)
make_tables_one s lo hi x y lo_x hi_x lo_y hi_y p q = (one p.3.0 q.3.0, one p.3.1.0 q.3.1.0, one p.3.1.1 q.3.1.1)

-- What the part of a table holds.
pub part_one : (l : List ℕ) (t : ℕ) (x y : List ℕ) → Parts l t x → Parts l t y → x ≡ y
part_one l t x y p q = one p.3 q.3

-- The refusal beside the part.
pub part_refusal_one : (l : List ℕ) (t : ℕ) (x y : Refusal) → PartRefusal l t x → PartRefusal l t y → x ≡ y
part_refusal_one l t x y p q = one p.2 q.2

-- measures ----------------------------------------------------------------------------------------------------------------------------

-- Whether a time lies in its range.
pub in_range_one : (h : Bool) (lo hi c : ℕ) (x y : Bool) → InRange h lo hi c x → InRange h lo hi c y → x ≡ y
in_range_one h lo hi c x y p q = one p q

-- Rule 1 of one job, and rules (a), (b), (c).
pub outruns_one : (h : Bool) (n lo : ℕ) (d x y : Bool) → Outruns h n lo d x → Outruns h n lo d y → x ≡ y
outruns_one h n lo d x y p q = one p q

pub is_enabled_one : (h l lo hi : ℕ) (r x y : Bool) → IsEnabled h l lo hi r x → IsEnabled h l lo hi r y → x ≡ y
is_enabled_one h l lo hi r x y p q = one p q

-- Whether a finish misses a deadline.
pub misses_one : (h : Bool) (d f : ℕ) (w : Option ℕ) (x y : Bool) → Misses h d f w x → Misses h d f w y → x ≡ y
misses_one h d f w x y p q = one p q

-- The worse of two finishes, and the margin.
pub worse_one : (h : Bool) (w f x y : ℕ) → Worse h w f x → Worse h w f y → x ≡ y
worse_one h w f x y p q = one p q

pub margin_of_one : (d w : ℕ) (x y : ℤ) → MarginOf d w x → MarginOf d w y → x ≡ y
margin_of_one d w x y p q = one p q
