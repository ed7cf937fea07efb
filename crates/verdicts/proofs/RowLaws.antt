-- How the rows, the worst finishes and the margins are filled.
--   rows_to v x        == the rows before row x, and nothing in the others
--   rows_start, rows-set, rows-turn, rows_keep, rows_end   == a turn of the loop over the rows
--   worst_to v x j     == job j's worst finish over the rows before row x
--   raise-..           == the loop that raises the worst finishes by one more run;  raised-places: what it makes of a filling
--   places_same        == two fillings are equal that agree at the jobs
--   worsts-..          == the loop over the HI scenarios: before it, a turn with a run and one without, and after it
--   margins-..         == the loop over the jobs' margins
-- Assumes nothing.
use Prim.Native.Nat.{ℕ, zero, suc, ◌+◌, ◌-◌, ◌≤◌, ◌<◌, max}
use mathlib.Core.Path.{◌≡◌, refl, sym, ◌∙◌, ap, subst}
use mathlib.Core.Bool.{Bool, true, false, cond, ◌&&◌}
use mathlib.Core.List.{List, [], ◌∷◌, map}
use mathlib.Core.Logic.{⊎_elim}
use native.Mathlib.Omega.{arith}
use native.Mathlib.Numerals.{add-one}
use lib.Dec.{leb}
use lib.IntN.{ℤ, pos, ◌-ℤ◌}
use lib.ListN.{length, get_or, set, replicate, length-replicate, get_or-replicate}
use borrow.Author.Tests.{le-leb, lt-leb}
use Rattle.std.specs.Prelude.{Some, None}
use Rattle.model.specs.declared.Scenario.{Scenario}
use Rattle.model.specs.declared.Scenario.TheVariants.{Lo}
use Rattle.model.specs.Lists.{at, numbers, largest}
use Rattle.model.specs.Sets.{View, view, critical}
use Rattle.model.specs.Scenarios.{places, zeros, finish_in, row, hi_row, rows, worst, margin}
use Rattle.model.specs.Refusals.{is_good, refusal}
use Rattle.laws.proofs.Bools.{tests, split, and_i, and_no_l}
use Rattle.laws.proofs.Places.{at_suc, ext_at}
use Rattle.laws.proofs.Sums.{at-numbers}
use Rattle.model.specs.declared.Set.{Set}
use Rattle.verdicts.proofs.Entries.{part_e, few, place_is}
use Rattle.verdicts.specs.Tests.{numbered, plays, scenario_at}
use Rattle.verdicts.specs.Rows.{worse_in, raised_in, margins_in}
use Rattle.laws.proofs.Fill.{map_same, map_at, up_to, up_to-length, up_to-more, up_to_zero, mixed, mixed_zero, mixed-set, mixed_keep, map-length, up_to-places}
use Rattle.verdicts.proofs.Search.{plays_in, plays_out, plays_zero, numbered_suc, here, absent}

pub rows_to : View → ℕ → List (List ℕ)
rows_to v zero = replicate 65 zeros
rows_to v (suc k) = row v Lo ∷ up_to k (hi_row v) zeros

-- 65 rows, and nothing in row x
rows_to_length : (v : View) (x : ℕ) → length (rows_to v x) ≡ 65
unfolding rows_to
rows_to_length v zero = length-replicate 65 zeros
rows_to_length v (suc i) = ap suc (up_to-length i (hi_row v) zeros)

rows_to_at : (v : View) (x : ℕ) → x < 65 → get_or (rows_to v x) x zeros ≡ zeros
unfolding rows_to up_to
rows_to_at v zero q = get_or-replicate 65 0 zeros zeros (omega arith)
rows_to_at v (suc i) q =
    map_at (λ j. cond (leb j i) (hi_row v j) zeros) i zeros (omega arith) ∙ rw (lt-leb (suc i) i (omega arith)) refl

module _ (s : Set) (h : is_good (refusal (view s)) ≡ true) where
  pub rows_start : replicate 65 zeros ≡ rows_to (view s) 0
  unfolding rows_to
  rows_start = refl

  rows-set : (x : ℕ) → x ≤ s.count → plays (view s) x ≡ true → set (rows_to (view s) x) x (row (view s) (numbered x)) ≡ rows_to (view s) (x + 1)
  unfolding rows_to numbered up_to mixed hi_row
  rows-set zero q p = ap (λ l. row (view s) Lo ∷ l) (sym (up_to_zero (hi_row (view s)) zeros))
  rows-set (suc i) q p =
      let v = view s in
      let here : row v (numbered (suc i)) ≡ hi_row v (suc i) =
      ⊎_elim (λ z. absurd (omega (arith, z))) (λ (a, b). ap (row v) (numbered_suc i) ∙ sym (rw (and_i a b) refl))
      (plays_in s (suc i) q p) in
      rw add-one
      (ap (λ l. row v Lo ∷ l)
      (mixed-set (hi_row v) (λ _. zeros) i (row v (numbered (suc i))) (omega (arith, few s h)) here ∙ ap (λ n. up_to n (hi_row v) zeros) (add-one i)))

  pub rows-turn : (l : List (List ℕ)) (x : ℕ) (y : Scenario) (f : List ℕ) → l ≡ rows_to (view s) x → x ≤ s.count → Some y ≡ scenario_at (view s) x
      → f ≡ row (view s) y → set l x f ≡ rows_to (view s) (x + 1)
  rows-turn l x y f e q p g =
      let t = here s x y p in
      ap (λ m. set m x f) e ∙ ap (set (rows_to (view s) x) x) (g ∙ ap (row (view s)) t.1) ∙ rows-set x q t.0

  pub rows_keep : (x : ℕ) → None ≡ scenario_at (view s) x → rows_to (view s) x ≡ rows_to (view s) (x + 1)
  unfolding rows_to up_to mixed hi_row
  rows_keep zero p = absurd (omega (arith, (plays_out s 0 (absent s 0 p)).0))
  rows_keep (suc i) p =
      let v = view s in
      let none : zeros ≡ hi_row v (suc i) = sym (rw (plays_out s (suc i) (absent s (suc i) p)).1 refl) in
      rw add-one
      (ap (λ l. row v Lo ∷ l) (mixed_keep (hi_row v) (λ _. zeros) i none ∙ ap (λ n. up_to n (hi_row v) zeros) (add-one i)))

  pub rows_end : (x : ℕ) → x ≡ s.count + 1 → rows_to (view s) x ≡ rows (view s)
  unfolding rows_to rows up_to hi_row
  rows_end x e =
      let v = view s in
      rw (e, add-one)
      (ap (λ l. row v Lo ∷ l)
      (map_same (λ j. cond (leb j s.count) (hi_row v j) zeros) (hi_row v)
      (λ j p q.
      split (leb j s.count) (λ t. rw t refl)
      (λ f.
      let out : v.policy.part j ≡ false = split (v.policy.part j) (λ a. absurd (omega (tests, f, part_e s j a))) (λ a. a) in
      rw f (sym (rw (and_no_l (critical v.policy j) out) refl))))))

-- the worst finish of a job ----------------------------------------------------------------------------------------------------------

zero_max : (a : ℕ) → max 0 a ≡ a
zero_max a = omega arith

at-zeros : (i : ℕ) → i < 64 → at zeros (suc i) 0 ≡ 0
unfolding zeros
at-zeros i q = at_suc zeros i 0 ∙ get_or-replicate 64 i 0 0 q

-- the largest, where an entry that counts nothing is stored over
largest-set {ℓ} : {A : Type ℓ} (f : A → ℕ) (l : List A) (x : ℕ) (r d : A) → x < length l → f (get_or l x d) ≡ 0
    → largest f (set l x r) ≡ max (largest f l) (f r)
unfolding largest
largest-set f [] x r d q z = absurd (omega arith)
largest-set f (y ∷ l) zero r d q z = rw z (omega arith)
largest-set f (y ∷ l) (suc x) r d q z = rw (largest-set f l x r d (omega arith) z) (omega arith)

largest-zeros : (i n : ℕ) → i < 64 → largest (λ r. at r (suc i) 0) (replicate n zeros) ≡ 0
unfolding largest
largest-zeros i zero q = refl
largest-zeros i (suc n) q = rw (at-zeros i q, largest-zeros i n q) refl

-- job j's worst finish over the rows before row x
pub worst_to : View → ℕ → ℕ → ℕ
worst_to v x j = cond (critical v.policy j) (largest (λ r. at r j 0) (rows_to v x)) (finish_in v Lo j)

module _ (s : Set) (h : is_good (refusal (view s)) ≡ true) where
  -- before the loop that raises the worst finishes, its turn, and its end
  pub raise_start : (w f : List ℕ) → length w ≡ 64 → w ≡ mixed 0 (worse_in (view s) w f) (λ j. at w j 0)
  raise_start w f e =
      let g : ℕ → ℕ = λ j. at w j 0 in
      sym (mixed_zero (worse_in (view s) w f) g
      ∙ ext_at 0 (map g (numbers 64)) w (map-length g ∙ sym e) (λ j p q. at-numbers g 64 j 0 p (omega (arith, q, map-length g))))

  pub raise-more : (w f l : List ℕ) (i y : ℕ) (b : Bool) → l ≡ mixed i (worse_in (view s) w f) (λ j. at w j 0) → i < s.count
      → b ≡ critical (view s).policy (suc i) → y ≡ cond b (max (get_or l i 0) (get_or f i 0)) (get_or l i 0) → set l i y ≡ mixed (i + 1) (worse_in (view s) w f) (λ j. at w j 0)
  unfolding worse_in mixed
  raise-more w f l i y b e q k z =
      let v = view s in
      let g : ℕ → ℕ = λ j. at w j 0 in
      let here : get_or l i 0 ≡ at w (suc i) 0 =
      ap (λ m. get_or m i 0) e ∙ map_at (λ j. cond (leb j i) (worse_in v w f j) (g j)) i 0 (omega (arith, few s h)) ∙ rw (lt-leb (suc i) i (omega arith)) refl in
      ap (λ m. set m i y) e
      ∙ mixed-set (worse_in v w f) g i y (omega (arith, few s h)) (z ∙ sym (rw (sym k, sym here, at_suc f i 0) refl))

  pub raise_all : (w f l : List ℕ) (i : ℕ) → l ≡ mixed i (worse_in (view s) w f) (λ j. at w j 0) → i ≡ s.count → l ≡ raised_in (view s) w f
  unfolding raised_in mixed view
  raise_all w f l i e z =
      e ∙ map_same (λ j. cond (leb j i) (worse_in (view s) w f j) (at w j 0)) (λ j. cond (leb 1 j && leb j s.count) (worse_in (view s) w f j) (at w j 0))
      (λ j p q. rw (z, le-leb 1 j p) refl)

  -- what belongs to no job holds 0, and so it stays
  pub raised-places : (w f : List ℕ) (g : ℕ → ℕ) → w ≡ places (view s) g → raised_in (view s) w f ≡ places (view s) (worse_in (view s) w f)
  unfolding raised_in places
  raised-places w f g e =
      let v = view s in
      map_same (λ j. cond (v.policy.part j) (worse_in v w f j) (at w j 0)) (λ j. cond (v.policy.part j) (worse_in v w f j) 0)
      (λ j p q.
      split (v.policy.part j) (λ a. rw a refl)
      (λ a.
      let none : at w j 0 ≡ 0 = ap (λ l. at l j 0) e ∙ at-numbers (λ n. cond (v.policy.part n) (g n) 0) 64 j 0 p q ∙ rw a refl in
      rw (a, none) refl))

  -- two fillings are equal that agree at the jobs
  pub places_same : (f g : ℕ → ℕ) → ((i : ℕ) → i < s.count → f (suc i) ≡ g (suc i)) → places (view s) f ≡ places (view s) g
  unfolding places
  places_same f g e =
      let v = view s in
      map_same (λ j. cond (v.policy.part j) (f j) 0) (λ j. cond (v.policy.part j) (g j) 0)
      (λ j p q. split (v.policy.part j)
      (λ a. rw a (subst (λ n. f n ≡ g n) (omega arith) (e (j - 1) (omega (arith, part_e s j a)))))
      (λ a. rw a refl))

  -- the row that a run of scenario x brings is stored over nothing
  largest-more : (x i : ℕ) → x ≤ s.count → i < s.count → plays (view s) x ≡ true
      → largest (λ r. at r (suc i) 0) (rows_to (view s) (x + 1))
      ≡ max (largest (λ r. at r (suc i) 0) (rows_to (view s) x)) (at (row (view s) (numbered x)) (suc i) 0)
  largest-more x i q l p =
      let v = view s in
      ap (largest (λ r. at r (suc i) 0)) (sym (rows-set s h x q p))
      ∙ largest-set (λ r. at r (suc i) 0) (rows_to v x) x (row v (numbered x)) zeros (omega (arith, rows_to_length v x, few s h))
      (ap (λ r. at r (suc i) 0) (rows_to_at v x (omega (arith, few s h))) ∙ at-zeros i (omega (arith, few s h)))

  -- before the loop over the HI scenarios, its turns, and after it
  pub worsts-start : (f : List ℕ) → f ≡ row (view s) Lo → f ≡ places (view s) (worst_to (view s) 1)
  unfolding worst_to rows_to row numbered
  worsts-start f e =
      let v = view s in
      e
      ∙ places_same (finish_in v Lo) (worst_to v 1)
      (λ i q. split (critical v.policy (suc i))
      (λ a. rw a
      (sym (largest-more 0 i (omega arith) q (plays_zero s 0 refl)
      ∙ rw (largest-zeros i 65 (omega (arith, few s h))) (zero_max (at (row v Lo) (suc i) 0) ∙ at_suc (row v Lo) i 0 ∙ place_is s h (finish_in v Lo) i q))))
      (λ a. rw a refl))

  pub worsts-more : (w m : List ℕ) (x : ℕ) (f : List ℕ) → w ≡ places (view s) (worst_to (view s) x) → x ≤ s.count
      → (y : Scenario) → Some y ≡ scenario_at (view s) x → f ≡ row (view s) y
      → m ≡ raised_in (view s) w f → m ≡ places (view s) (worst_to (view s) (x + 1))
  unfolding worse_in worst_to
  worsts-more w m x f e q n hit g z =
      let v = view s in
      let t = here s x n hit in
      let p = t.0 in
      let y : f ≡ row v (numbered x) = g ∙ ap (row v) t.1 in
      z ∙ raised-places w f (worst_to v x) e
      ∙ places_same (worse_in v w f) (worst_to v (x + 1))
      (λ i l.
      let a : at w (suc i) 0 ≡ worst_to v x (suc i) = at_suc w i 0 ∙ ap (λ u. get_or u i 0) e ∙ place_is s h (worst_to v x) i l in
      split (critical v.policy (suc i))
      (λ b. rw b (ap (λ n. max n (at f (suc i) 0)) (a ∙ rw b refl) ∙ ap (λ u. max (largest (λ r. at r (suc i) 0) (rows_to v x)) (at u (suc i) 0)) y ∙ sym (largest-more x i q l p)))
      (λ b. rw b (a ∙ rw b refl)))

  pub worsts_keep : (x : ℕ) → None ≡ scenario_at (view s) x → places (view s) (worst_to (view s) x) ≡ places (view s) (worst_to (view s) (x + 1))
  unfolding worst_to
  worsts_keep x p =
      let v = view s in
      ap (λ l. places v (λ j. cond (critical v.policy j) (largest (λ r. at r j 0) l) (finish_in v Lo j))) (rows_keep s h x p)

  pub worsts-end : (x : ℕ) → x ≡ s.count + 1 → places (view s) (worst_to (view s) x) ≡ places (view s) (worst (view s))
  unfolding worst_to worst
  worsts-end x e =
      let v = view s in
      ap (λ l. places v (λ j. cond (critical v.policy j) (largest (λ r. at r j 0) l) (finish_in v Lo j))) (rows_end s h x e)

  pub margins-more : (l : List ℤ) (w : List ℕ) (i d : ℕ) (m : ℤ) → l ≡ up_to i (margin (view s)) (pos 0) → i < s.count
      → w ≡ places (view s) (worst (view s)) → d ≡ (view s).deadline (suc i) → m ≡ pos d -ℤ pos (get_or w i 0)
      → set l i m ≡ up_to (i + 1) (margin (view s)) (pos 0)
  unfolding margin
  margins-more l w i d m e q r k f =
      let v = view s in
      up_to-more l i (margin v) m (pos 0) e (omega (arith, few s h))
      (f ∙ ap (λ y. pos d -ℤ pos (get_or y i 0)) r
      ∙ ap (λ y. pos d -ℤ pos y) (place_is s h (worst v) i q)
      ∙ ap (λ y. pos y -ℤ pos (worst v (suc i))) k)

  pub margins_all : (l : List ℤ) (i : ℕ) → l ≡ up_to i (margin (view s)) (pos 0) → i ≡ s.count → l ≡ margins_in (view s)
  unfolding margins_in view
  margins_all l i e z = e ∙ ap (λ n. up_to n (margin (view s)) (pos 0)) z ∙ up_to-places s.count (margin (view s)) (pos 0)
