-- What the public functions promise, as relations between what a call is given and what it answers. Each is the function's own promise, as the
-- kit reads it off the contract (`Reads.Post`), and no copy of it: of the lifetimes, the arguments, the answer, and the arguments at exit.
--   RefusalOf s x     == `refusal_of` may answer x for the set s, by its promise;  so for the others:
--   IsHi, Untimely, Unbudgeted, Places, SpanOf, ColumnsOf, Assesses, Judges, FinishRows, RowsRefusal, WorstFinishes, Margins
--   Checks s x, Members s l, FaultOf ok o x   == `check` and `members` of a set that is lent, and `fault_of` of marks and an order that are
--   Orders k m x      == `order` of the columns k in the mode m: the slice that it answers holds x
--   ChecksRoom s lo hi x   == `check_room` of the set s, for tables of lengths lo and hi
--   Refuses c k x     == `refuse` of the check c may answer x for the place k, if there is one
--   Held T .. l j x   == `held`, lent a list l of any type T that is copied, for the job j
--   Told r x, Checked r x   == `from` may tell what a check refuses, r, as the answer x; and `check` the answer r as the check x
--   Executes s c x    == `execute`, with the running times c
--   Picks o a d t x   == `pick`, lent an order o, arrivals a and who is done d, at the instant t
--   Parts l t x       == `part` of the table l from the instant t: the slice that it answers holds x;  PartRefusal: its companion
--   InRange, Outruns, IsEnabled, Misses, Worse, MarginOf   == those of the measures, from the numbers that each is given
--   Slots s c l x after   == `slots`, with the running times c, lent room that holds l: it answers x, and the room holds `after`
--   MakesTables s lo hi x lo_after hi_after   == `make_tables`, lent room that holds lo and hi: it answers x, and the room holds lo_after and hi_after
use Rattle.std.specs.Prelude.{ℕ, Bool, List, ℤ, Option, Result}
use Rattle.std.specs.Borrow.{GName, Bor, MutBor}
use Rattle.std.specs.declared.clone.Clone.{Ghosts as Clones}
use contract.Lifetimes.{Lfts}
use denote.RattleType.{RattleType}
use denote.Param.Laws.{Laws, IsCopy}
use mir.Syntax.{Dict}
use Rattle.model.specs.declared.Level.{Level}
use Rattle.model.specs.declared.Job.{Job}
use Rattle.model.specs.declared.Order.{Order}
use Rattle.model.specs.declared.Set.{Set}
use Rattle.model.specs.declared.Check.{Check}
use Rattle.model.specs.declared.Refusal.{Refusal}
use Rattle.model.specs.declared.Ran.{Ran}
use Rattle.model.specs.declared.Judged.{Judged}
use Rattle.model.specs.declared.Assessed.{Assessed}
use Rattle.columns.specs.declared.Columns.{Columns}
use Rattle.model.proofs.RefusalFromResultUnitRefusal.from.Reads.{Post as told}
use Rattle.model.proofs.Refusal.check.Reads.{Post as checked}
use Rattle.model.proofs.Check.refuse.Reads.{Post as refuses}
use Rattle.model.proofs.places.held.Reads.{Post as held}
use Rattle.rules.proofs.jobs.is_hi.Reads.{Post as is_hi}
use Rattle.rules.proofs.jobs.untimely.Reads.{Post as untimely}
use Rattle.rules.proofs.jobs.unbudgeted.Reads.{Post as unbudgeted}
use Rattle.rules.proofs.jobs.members.Reads.{Post as members}
use Rattle.rules.proofs.orders.places.Reads.{Post as places}
use Rattle.rules.proofs.orders.fault_of.Reads.{Post as fault_of}
use Rattle.checks.proofs.check.Reads.{Post as check}
use Rattle.checks.proofs.refusal_of.Reads.{Post as refusal_of}
use Rattle.spans.proofs.span_of.Reads.{Post as span_of}
use Rattle.measures.proofs.in_range.Reads.{Post as in_range}
use Rattle.measures.proofs.outruns.Reads.{Post as outruns}
use Rattle.measures.proofs.is_enabled.Reads.{Post as is_enabled}
use Rattle.measures.proofs.misses.Reads.{Post as misses}
use Rattle.measures.proofs.worse.Reads.{Post as worse}
use Rattle.measures.proofs.margin_of.Reads.{Post as margin_of}
use Rattle.columns.proofs.columns_of.Reads.{Post as columns_of}
use Rattle.columns.proofs.Columns.order.Reads.{Post as order}
use Rattle.verdicts.proofs.assess.Reads.{Post as assess}
use Rattle.verdicts.proofs.judge.Reads.{Post as judge}
use Rattle.verdicts.proofs.finish_rows.Reads.{Post as finish_rows}
use Rattle.verdicts.proofs.rows_refusal.Reads.{Post as rows_refusal}
use Rattle.verdicts.proofs.worst_finishes.Reads.{Post as worst_finishes}
use Rattle.verdicts.proofs.margins.Reads.{Post as margins}
use Rattle.runs.proofs.check_room.Reads.{Post as check_room}
use Rattle.runs.proofs.execute.Reads.{Post as execute}
use Rattle.runs.proofs.slots.Reads.{Post as slots}
use Rattle.picks.proofs.pick.Reads.{Post as pick}
use Rattle.parts.proofs.part.Reads.{Post as part}
use Rattle.parts.proofs.part_refusal.Reads.{Post as part_refusal}
use Rattle.tables.proofs.make_tables.Reads.{Post as make_tables}

abbrev pub IsHi : Level → Bool → Type 0
IsHi l x = is_hi tt (l, tt) x (l, tt)

abbrev pub Untimely : Job → Bool → Type 0
Untimely j x = untimely tt (j, tt) x (j, tt)

abbrev pub Unbudgeted : Job → Bool → Type 0
Unbudgeted j x = unbudgeted tt (j, tt) x (j, tt)

abbrev pub Places : ℕ → ℕ → Type 0
Places n x = places tt (n, tt) x (n, tt)

abbrev pub Refuses : Check → Option ℕ → Result (Unit {0}) Refusal → Type 0
Refuses c k x = refuses tt (c, (k, tt)) x (c, (k, tt))

abbrev pub Told : Result (Unit {0}) Refusal → Refusal → Type 0
Told r x = told tt (r, tt) x (r, tt)

abbrev pub Checked : Refusal → Result (Unit {0}) Refusal → Type 0
Checked r x = checked tt (r, tt) x (r, tt)

abbrev pub RefusalOf : Set → Refusal → Type 0
RefusalOf s x = refusal_of tt (s, tt) x (s, tt)

abbrev pub SpanOf : Set → ℕ → Type 0
SpanOf s x = span_of tt (s, tt) x (s, tt)

abbrev pub ColumnsOf : Set → Columns → Type 0
ColumnsOf s x = columns_of tt (s, tt) x (s, tt)

abbrev pub Assesses : Set → Assessed → Type 0
Assesses s x = assess tt (s, tt) x (s, tt)

abbrev pub Judges : Set → Judged → Type 0
Judges s x = judge tt (s, tt) x (s, tt)

abbrev pub FinishRows : Set → List (List ℕ) → Type 0
FinishRows s x = finish_rows tt (s, tt) x (s, tt)

abbrev pub RowsRefusal : Set → Refusal → Type 0
RowsRefusal s x = rows_refusal tt (s, tt) x (s, tt)

abbrev pub WorstFinishes : Set → List ℕ → Type 0
WorstFinishes s x = worst_finishes tt (s, tt) x (s, tt)

abbrev pub Margins : Set → List ℤ → Type 0
Margins s x = margins tt (s, tt) x (s, tt)

abbrev pub Executes : Set → List ℕ → Ran → Type 0
Executes s c x = execute tt (s, (c, tt)) x (s, (c, tt))

abbrev pub InRange : Bool → ℕ → ℕ → ℕ → Bool → Type 0
InRange h lo hi c x = in_range tt (h, (lo, (hi, (c, tt)))) x (h, (lo, (hi, (c, tt))))

abbrev pub Outruns : Bool → ℕ → ℕ → Bool → Bool → Type 0
Outruns h n lo d x = outruns tt (h, (n, (lo, (d, tt)))) x (h, (n, (lo, (d, tt))))

abbrev pub IsEnabled : ℕ → ℕ → ℕ → ℕ → Bool → Bool → Type 0
IsEnabled h l lo hi r x = is_enabled tt (h, (l, (lo, (hi, (r, tt))))) x (h, (l, (lo, (hi, (r, tt)))))

abbrev pub Misses : Bool → ℕ → ℕ → Option ℕ → Bool → Type 0
Misses h d f w x = misses tt (h, (d, (f, (w, tt)))) x (h, (d, (f, (w, tt))))

abbrev pub Worse : Bool → ℕ → ℕ → ℕ → Type 0
Worse h w f x = worse tt (h, (w, (f, tt))) x (h, (w, (f, tt)))

abbrev pub MarginOf : ℕ → ℕ → ℤ → Type 0
MarginOf d w x = margin_of tt (d, (w, tt)) x (d, (w, tt))

-- Where what is lent stands: its address, and the name by which the logic follows what it holds, if it is lent to be written. `lent p x`: x at p, lent
-- to be read;  `slice p l`: the slice at p, which holds l;  `room p l`: lent to be written.
abbrev pub Spot : Type 0
Spot = (ℕ × ℕ) × GName

abbrev pub lent : {A : Type 0} → Spot → A → Bor A
lent p x = record { ref_ptr = p.0; now = x }

abbrev pub slice : {A : Type 0} → Spot → List A → Bor (List A)
slice p l = lent p l

abbrev pub room : {A : Type 0} → Spot → List A → MutBor (List A)
room p l = record { ref_ptr = p.0; ghost_name = p.1; now = l }

-- Wherever what is lent stands, and however long it is lent.
abbrev pub Held : (T : RattleType) → Laws T → IsCopy T → Clones T.Denot → Dict → List T.Denot → ℕ → Option T.Denot → Type 0
Held T laws copy clones dict l j x =
    (κs : Lfts 2) × (p : Spot) × held T laws copy clones dict κs (slice p l, (j, tt)) x (slice p l, (j, tt))

abbrev pub Checks : Set → Result (Unit {0}) Refusal → Type 0
Checks s x = (κs : Lfts 1) × (p : Spot) × check κs (lent p s, tt) x (lent p s, tt)

abbrev pub Members : Set → List Job → Type 0
Members s l = (κs : Lfts 1) × (p q : Spot) × members κs (lent p s, tt) (slice q l) (lent p s, tt)

abbrev pub FaultOf : List Bool → Order → Option ℕ → Type 0
FaultOf ok o x = (κs : Lfts 2) × (p q : Spot) × fault_of κs (lent p ok, (lent q o, tt)) x (lent p ok, (lent q o, tt))

abbrev pub Orders : Columns → Level → List ℕ → Type 0
Orders k m x = (κs : Lfts 1) × (p q : Spot) × order κs (lent p k, (m, tt)) (slice q x) (lent p k, (m, tt))

abbrev pub ChecksRoom : Set → ℕ → ℕ → Result (Unit {0}) Refusal → Type 0
ChecksRoom s lo hi x = (κs : Lfts 1) × (p : Spot) × check_room κs (lent p s, (lo, (hi, tt))) x (lent p s, (lo, (hi, tt)))

abbrev pub Picks : List ℕ → List ℕ → List Bool → ℕ → Option ℕ → Type 0
Picks o a d t x =
    (κs : Lfts 3) × (p q r : Spot) ×
    pick κs (slice p o, (slice q a, (slice r d, (t, tt)))) x (slice p o, (slice q a, (slice r d, (t, tt))))

abbrev pub Parts : List ℕ → ℕ → List ℕ → Type 0
Parts l t x = (κs : Lfts 1) × (p q : Spot) × part κs (slice p l, (t, tt)) (slice q x) (slice p l, (t, tt))

abbrev pub PartRefusal : List ℕ → ℕ → Refusal → Type 0
PartRefusal l t x = (κs : Lfts 1) × (p : Spot) × part_refusal κs (slice p l, (t, tt)) x (slice p l, (t, tt))

abbrev pub Slots : Set → List ℕ → List ℕ → Refusal → List ℕ → Type 0
Slots s c l x after = (κs : Lfts 1) × (p : Spot) × slots κs (s, (c, (room p l, tt))) x (s, (c, (room p after, tt)))

abbrev pub MakesTables : Set → List ℕ → List ℕ → Refusal → List ℕ → List ℕ → Type 0
MakesTables s lo hi x lo_after hi_after =
    (κs : Lfts 2) × (p q : Spot) ×
    make_tables κs (s, (room p lo, (room q hi, tt))) x (s, (room p lo_after, (room q hi_after, tt)))
