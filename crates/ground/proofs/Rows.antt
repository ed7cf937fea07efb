-- The rows and the margins as they are returned, place by place.
--   LateIn s l j          == in one of the rows l job j is late
--   at_fill, at-blank     == a place that holds what a missing place counts for
--   row-lo, row-hi        == row 0 is LO, and row x that of HI job x
--   late-rows             == a job of a set that passes has a negative margin exactly if it is late in a row
--   rows-blank, no_rows   == any other place of the rows is 0, and so is every place on a refusal;  quiet: then none is late
--   margins-late          == so for whatever set
-- Assumes nothing.
use Prim.Native.Nat.{ℕ, zero, suc, ◌-◌, ◌≤◌, ◌<◌}
use mathlib.Core.Path.{◌≡◌, refl, sym, ◌∙◌, ap, subst}
use mathlib.Core.Bool.{true, false, cond, ◌&&◌}
use mathlib.Core.List.{List, [], map}
use mathlib.Core.Logic.{⊎_elim, ◌↔◌}
use native.Mathlib.Omega.{arith}
use lib.Dec.{eqb, leb}
use lib.IntN.{ℤ, pos}
use lib.ListN.{get_or, replicate, get_or-replicate}
use borrow.Author.Tests.{lt-ltb}
use Rattle.model.specs.declared.Set.{Set}
use Rattle.model.specs.declared.Scenario.{Scenario}
use Rattle.model.specs.declared.Scenario.TheVariants.{Lo, Hi}
use Rattle.model.specs.Lists.{at, from, numbers}
use Rattle.model.specs.Sets.{View, job_at, view, critical}
use Rattle.model.specs.Runs.{late}
use Rattle.model.specs.Scenarios.{places, zeros, times_of, finish_in, row, hi_row, rows, margin}
use Rattle.model.specs.Refusals.{is_good, refusal}
use Rattle.model.specs.Answers.{unless, finish_rows, margins}
use Rattle.theory.specs.Words.{Passes, JobOf}
use Rattle.theory.specs.Misses.{ScenarioOf}
use Rattle.theory.specs.Signs.{negative}
use Rattle.theory.proofs.Margins.{at_row, at-hi_row, hi_row_is}
use Rattle.theory.proofs.Embeddings.{part_e}
use Rattle.theory.proofs.Views.{sound_of, part_of}
use Rattle.theory.proofs.Results.{margin_is_late}
use Rattle.laws.proofs.Bools.{tests, split, clash}
use Rattle.laws.proofs.Places.{at_suc, at_out}
use Rattle.laws.proofs.Sums.{at-numbers}
use Rattle.ground.proofs.Answers.{good_passes}

abbrev LateIn : Set → List (List ℕ) → ℕ → Type 0
LateIn s l j = (x : ℕ) × (x ≤ 64) × ((job_at s j).deadline < at (get_or l x []) j 0)

-- places ------------------------------------------------------------------------------------------------------------------------------

get_or-fill {ℓ} : {A : Type ℓ} (n i : ℕ) (d : A) → get_or (replicate n d) i d ≡ d
get_or-fill zero i d = refl
get_or-fill (suc n) zero d = refl
get_or-fill (suc n) (suc i) d = get_or-fill n i d

at_fill {ℓ} : {A : Type ℓ} (n j : ℕ) (d : A) → at (replicate n d) j d ≡ d
unfolding at
at_fill n j d = split (eqb j 0) (λ t. rw t refl) (λ f. rw f (get_or-fill n (j - 1) d))

at_zero {ℓ} : {A : Type ℓ} (l : List A) (j : ℕ) (d : A) → j ≡ 0 → at l j d ≡ d
unfolding at
at_zero l j d e = rw e refl

at-blank {ℓ} : {A : Type ℓ} (f : ℕ → A) (j : ℕ) (d : A) → f j ≡ d → at (map f (numbers 64)) j d ≡ d
unfolding numbers from
at-blank f j d e =
    split (eqb j 0)
    (λ z. at_zero (map f (numbers 64)) j d (omega (tests, z)))
    (λ z.
    split (leb j 64)
    (λ q. at-numbers f 64 j d (omega (tests, z)) (omega (tests, q)) ∙ e)
    (λ q. at_out (map f (numbers 64)) j d (omega (tests, q))))

-- rows --------------------------------------------------------------------------------------------------------------------------------

row-lo : (v : View) → get_or (rows v) 0 [] ≡ row v Lo
unfolding rows
row-lo v = refl

row-hi : (v : View) (i : ℕ) → 1 ≤ i → i ≤ 64 → get_or (rows v) i [] ≡ hi_row v i
unfolding rows
row-hi v zero p q = absurd (omega arith)
row-hi v (suc i) p q = sym (at_suc (map (hi_row v) (numbers 64)) i []) ∙ at-numbers (hi_row v) 64 (suc i) [] p q

module _ (s : Set) (h : Passes s) (j : ℕ) (a : JobOf s j) where
  late_to : (x : Scenario) → ScenarioOf (view s) x → late (view s) (times_of (view s) x) j ≡ true → LateIn s (rows (view s)) j
  unfolding late finish_in view
  late_to Lo q l =
      let v = view s in
      let e = ap (λ r. at r j 0) (row-lo v) ∙ at_row v (sound_of s h) Lo j (part_of s j a) in
      (0, omega arith, omega (tests, l, e))
  late_to (Hi i) q l =
      let v = view s in
      let r = (sound_of s h).ordered.room i q.0 in
      let e = ap (λ r. at r j 0) (row-hi v i r.0 r.1) ∙ hi_row_is v (sound_of s h) i j q (part_of s j a) in
      (i, r.1, omega (tests, l, e))

  late-from : (x : ℕ) → x ≤ 64 → (job_at s j).deadline < at (get_or (rows (view s)) x []) j 0
      → (y : Scenario) × (ScenarioOf (view s) y) × (late (view s) (times_of (view s) y) j ≡ true)
  unfolding late finish_in view
  late-from zero q l =
      let v = view s in
      let e = ap (λ r. at r j 0) (row-lo v) ∙ at_row v (sound_of s h) Lo j (part_of s j a) in
      (Lo, tt, lt-ltb (job_at s j).deadline (finish_in v Lo j) (omega (arith, l, e)))
  late-from (suc i) q l =
      let v = view s in
      let e = ap (λ r. at r j 0) (row-hi v (suc i) (omega arith) q) in
      ⊎_elim
      (λ z. absurd (omega (arith, l, e, z)))
      (λ (y, z). (Hi (suc i), y, lt-ltb (job_at s j).deadline (finish_in v (Hi (suc i)) j) (omega (arith, l, e, z))))
      (at-hi_row v (sound_of s h) (suc i) j (part_of s j a))

  pub late-rows : (negative (margin (view s) j) ≡ true) ↔ LateIn s (rows (view s)) j
  late-rows =
      let iff = margin_is_late s h j a in
      (λ n. let (x, q, l) = iff.0 n in late_to x q l, λ (x, q, l). iff.1 (late-from x q l))

-- elsewhere ---------------------------------------------------------------------------------------------------------------------------

row-blank : (v : View) (x : Scenario) (j : ℕ) → v.policy.part j ≡ false → at (row v x) j 0 ≡ 0
unfolding row places
row-blank v x j a = at-blank (λ i. cond (v.policy.part i) (finish_in v x i) 0) j 0 (rw a refl)

rows-blank : (v : View) (j : ℕ) → v.policy.part j ≡ false → (x : ℕ) → x ≤ 64 → at (get_or (rows v) x []) j 0 ≡ 0
unfolding hi_row zeros
rows-blank v j a zero q = ap (λ r. at r j 0) (row-lo v) ∙ row-blank v Lo j a
rows-blank v j a (suc i) q =
    ap (λ r. at r j 0) (row-hi v (suc i) (omega arith) q)
    ∙ split (v.policy.part (suc i) && critical v.policy (suc i))
    (λ t. rw t (row-blank v (Hi (suc i)) j a))
    (λ f. rw f (at_fill 64 j 0))

no_rows : (l : List (List ℕ)) (j : ℕ) → l ≡ replicate 65 zeros → (x : ℕ) → x ≤ 64 → at (get_or l x []) j 0 ≡ 0
unfolding zeros
no_rows l j e x q =
    subst (λ n. at (get_or n x []) j 0 ≡ 0) (sym e)
    (ap (λ r. at r j 0) (get_or-replicate {A = List ℕ} 65 x zeros [] (omega arith)) ∙ at_fill 64 j 0)

quiet : (s : Set) (m : List ℤ) (l : List (List ℕ)) (j : ℕ) → at m j (pos 0) ≡ pos 0 → ((x : ℕ) → x ≤ 64 → at (get_or l x []) j 0 ≡ 0)
    → (negative (at m j (pos 0)) ≡ true) ↔ LateIn s l j
unfolding negative
quiet s m l j e f = (λ n. clash n (ap negative e), λ (x, q, y). absurd (omega (arith, y, f x q)))

-- whatever the set --------------------------------------------------------------------------------------------------------------------

pub margins-late : (s : Set) (m : List ℤ) (l : List (List ℕ)) → m ≡ margins (view s) → l ≡ finish_rows (view s) → (j : ℕ)
    → (negative (at m j (pos 0)) ≡ true) ↔ LateIn s l j
unfolding margins finish_rows unless
margins-late s m l p q j =
    let v = view s in
    let each : ℕ → ℤ = λ i. cond (v.policy.part i) (margin v i) (pos 0) in
    split (is_good (refusal v))
    (λ t.
    let em : m ≡ map each (numbers 64) = p ∙ rw t refl in
    let el : l ≡ rows v = q ∙ rw t refl in
    split (v.policy.part j)
    (λ a.
    let here = part_e s j a in
    let iff = late-rows s (good_passes s t) j here in
    let e : at m j (pos 0) ≡ margin v j =
    ap (λ n. at n j (pos 0)) em ∙ at-numbers each 64 j (pos 0) here.0 ((sound_of s (good_passes s t)).ordered.room j a).1 ∙ rw a refl in (
      λ n. subst (λ r. LateIn s r j) (sym el) (iff.0 (ap negative (sym e) ∙ n)),
      λ y. ap negative e ∙ iff.1 (subst (λ r. LateIn s r j) el y),
    ))
    (λ a.
    quiet s m l j (ap (λ n. at n j (pos 0)) em ∙ at-blank each j (pos 0) (rw a refl))
    (λ x y. ap (λ n. at (get_or n x []) j 0) el ∙ rows-blank v j a x y)))
    (λ f.
    let em : m ≡ replicate 64 (pos 0) = p ∙ rw f refl in
    quiet s m l j (ap (λ n. at n j (pos 0)) em ∙ at_fill 64 j (pos 0)) (no_rows l j (q ∙ rw f refl)))
