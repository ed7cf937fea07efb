use Prim.Native.Nat.{ℕ, ◌+◌, min}
use mathlib.Core.Bool.{Bool}
use mathlib.Core.List.{List}
use mathlib.Core.Path.{◌≡◌, refl, sym, ◌∙◌, ap}
use native.Mathlib.Numerals.{add-one}
use native.Mathlib.Omega.{arith}
use lib.ListN.{length, take, drop}
use Rattle.std.proofs.Common.{Some}
use Rattle.std.proofs.lemmas.List.{drop_all}
use Rattle.model.specs.Lists.{cut}
use Rattle.model.specs.Refusals.{fault_from, fault}
use Rattle.rules.specs.Rules.{marked, nonzero}
use Rattle.rules.proofs.Faults.{cut_is_take, mem_is_any, unfit, repeats, fault_passed}
use Rattle.rules.proofs.orders.fault_of.Goals as goal
use Rattle.rules.proofs.orders.fault_of.Goals.{then-not-marked-via-then-not-marked, then-not-marked-via-else-not-marked+then-contains}

-- the order is cut at the places that its count has
counted : (ok : List Bool) (l : List ℕ) (k n : ℕ) → n ≡ min k 64 → length l ≡ 64
    → fault (marked ok) (cut 0 (min k 64) l) ≡ fault (marked ok) (take n l)
counted ok l k n e h = rw (sym e) (ap (fault (marked ok)) (cut_is_take n l (omega arith)))

at_number : (i k : ℕ) → k ≡ i + 1 → Some (i + 1) ≡ nonzero k
unfolding nonzero
at_number i k e = rw (e, add-one) refl

pub loop-i-init : goal.loop-i-init
unfolding fault
loop-i-init c = refl

pub returns-then-not-marked : goal.returns-then-not-marked
returns-then-not-marked c =
    let a = c.args in
    let ok = marked a.ok.now in
    let order = take c.places.result a.o.now.entries in
    let i = c.loop-i.i in
    let e : fault ok (cut 0 (min a.o.now.count 64) a.o.now.entries) ≡ fault_from ok (take i order) (i + 1) (drop i order) =
    counted a.ok.now a.o.now.entries a.o.now.count c.places.result c.places.ensures (omega arith) ∙ c.loop-i.invariant in
    at_number i _
    (e ∙ elim c.then-not-marked.branch [
      | then-not-marked-via-then-not-marked w ↦ unfit ok order i c.loop-i-test.true (sym w.if-not-marked.ensures)
      | then-not-marked-via-else-not-marked+then-contains w ↦ repeats ok order i c.loop-i-test.true (sym (mem_is_any _ _) ∙ sym w.if-contains.ensures.value)
    ])

pub loop-i-preserved : goal.loop-i-preserved
loop-i-preserved c =
    c.loop-i.invariant
    ∙ fault_passed (marked c.args.ok.now) (take c.places.result c.args.o.now.entries) c.loop-i.i c.loop-i-test.true (sym c.if-not-marked.ensures)
    (sym (mem_is_any _ _) ∙ sym c.if-contains.ensures.value)

pub returns : goal.returns
unfolding nonzero fault_from
returns c =
    let a = c.args in
    let ok = marked a.ok.now in
    let order = take c.places.result a.o.now.entries in
    let i = c.loop-i.i in
    let e : fault ok (cut 0 (min a.o.now.count 64) a.o.now.entries) ≡ fault_from ok (take i order) (i + 1) (drop i order) =
    counted a.ok.now a.o.now.entries a.o.now.count c.places.result c.places.ensures (omega arith) ∙ c.loop-i.invariant in
    rw (e, drop_all i order c.loop-i-test.false) refl
