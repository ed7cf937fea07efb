-- How large the numbers of an answer are.
--   Short r        == a refusal whose number and place have the range of the struct's
--   Small v        == a set with at most 64 jobs and entries an order, and numbers of 16 bits
--   refusal-short  == the refusal of a small set is short
--   member_most, members_most   == the jobs that take part are at most 64
--   worst_most, times_most      == worst finishes, and the running times of a scenario
--   Within v m     == a miss that names a scenario and a job of the set, and a finish;  search-within: so does what the search finds
-- Assumes nothing.
use Prim.Native.Nat.{ℕ, zero, suc, ◌+◌, ◌-◌, ◌*◌, ◌^◌, ◌≤◌, ◌<◌}
use mathlib.Core.Path.{◌≡◌, subst}
use mathlib.Core.Bool.{Bool, true, cond, not, ◌&&◌, ◌||◌}
use mathlib.Core.List.{List, [], ◌∷◌, map}
use native.Mathlib.Omega.{arith}
use lib.Dec.{eqb}
use lib.ListN.{length, get_or, replicate}
use Rattle.model.specs.declared.Level.{Level}
use Rattle.model.specs.declared.Level.TheVariants.{Lo, Hi}
use Rattle.model.specs.declared.Refusal.{Refusal}
use Rattle.model.specs.declared.Scenario.{Scenario}
use Rattle.model.specs.declared.Scenario.TheVariants.{Lo as ScenarioLo, Hi as ScenarioHi}
use Rattle.model.specs.declared.Miss.{Miss}
use Rattle.model.specs.declared.Verdict.TheVariants.{Unfit}
use Rattle.model.specs.Lists.{at, numbers, first, mem, total, largest}
use Rattle.model.specs.Sets.{Policy, View, members, critical, span}
use Rattle.model.specs.Runs.{done_at, missed, mark, outcome, outcome_in, finish_of, dropped_by, switch_of}
use Rattle.model.specs.Scenarios.{places, zeros, hi_jobs, scenarios, lo_times, turn, hi_time, times_of, finish_in, late_in, search, row, hi_row, rows, worst}
use Rattle.model.specs.Refusals.{good, is_good, applies, placed, first_of, lowest, fault_from, fault, check_count, check_time, check_budget, check_span, check_lo_order, check_hi_order, checks, refusal}
use Rattle.model.specs.Printed.{scenario_number}
use Rattle.laws.proofs.Bools.{split}
use Rattle.laws.proofs.Lists.{mem_head, mem_tail, only_e, least_le}
use Rattle.laws.proofs.Sums.{mem-from}
use Rattle.laws.proofs.Pigeonhole.{length_from, only_most}

pub record Short (r : Refusal) : Type 0 where
  pub number : r.number < 1000
  pub place : r.place < 10 ^ 20

pub record Small (v : View) : Type 0 where
  pub count : v.count ≤ 64
  pub orders : (m : Level) → length (v.policy.order m) ≤ 64
  pub arrival : (j : ℕ) → v.policy.arrival j ≤ 65535
  pub deadline : (j : ℕ) → v.deadline j ≤ 65535
  pub lo : (j : ℕ) → v.policy.lo j ≤ 65535
  pub hi : (j : ℕ) → v.hi j ≤ 65535

-- lists ----------------------------------------------------------------------------------------------------------------------------------

first_most : (test : ℕ → Bool) (l : List ℕ) → ((j : ℕ) → mem j l ≡ true → j ≤ 64) → first test l ≤ 64
unfolding first
first_most test [] h = omega arith
first_most test (x ∷ l) h = split (test x) (λ t. rw t (h x (mem_head x l))) (λ f. rw f (first_most test l (λ j m. h j (mem_tail j x l m))))

largest_most {ℓ} : {A : Type ℓ} (f : A → ℕ) (b : ℕ) (l : List A) → ((x : A) → f x ≤ b) → largest f l ≤ b
unfolding largest
largest_most f b [] h = omega arith
largest_most f b (x ∷ l) h = omega (arith, h x, largest_most f b l h)

total_most : (f : ℕ → ℕ) (l : List ℕ) → ((x : ℕ) → f x ≤ 65535) → total f l ≤ 65535 * length l
unfolding total
total_most f [] h = omega arith
total_most f (x ∷ l) h = omega (arith, h x, total_most f l h)

fault_most : (ok : ℕ → Bool) (seen : List ℕ) (k : ℕ) (l : List ℕ) → fault_from ok seen k l ≤ k + length l
unfolding fault_from
fault_most ok seen k [] = omega arith
fault_most ok seen k (x ∷ l) =
    split (ok x && not (mem x seen)) (λ t. rw t (omega (arith, fault_most ok (x ∷ seen) (suc k) l))) (λ f. rw f (omega arith))

map_most {ℓ} : {A : Type ℓ} (g : A → ℕ) (b : ℕ) (l : List A) → ((x : A) → g x ≤ b) → (i : ℕ) → get_or (map g l) i 0 ≤ b
map_most g b [] h i = omega arith
map_most g b (x ∷ l) h zero = h x
map_most g b (x ∷ l) h (suc i) = map_most g b l h i

replicate_most : (b n i : ℕ) → get_or (replicate n 0) i 0 ≤ b
replicate_most b zero i = omega arith
replicate_most b (suc n) zero = omega arith
replicate_most b (suc n) (suc i) = replicate_most b n i

largest_map_most : (f : List ℕ → ℕ) (g : ℕ → List ℕ) (b : ℕ) (l : List ℕ) → ((j : ℕ) → f (g j) ≤ b) → largest f (map g l) ≤ b
unfolding largest
largest_map_most f g b [] h = omega arith
largest_map_most f g b (x ∷ l) h = omega (arith, h x, largest_map_most f g b l h)

at_most : (l : List ℕ) (b : ℕ) → ((i : ℕ) → get_or l i 0 ≤ b) → (j : ℕ) → at l j 0 ≤ b
unfolding at
at_most l b h j = split (eqb j 0) (λ t. rw t (omega arith)) (λ f. rw f (h (j - 1)))

pub member_most : (p : Policy) (j : ℕ) → mem j (members p) ≡ true → j ≤ 64
unfolding members numbers
member_most p j m = let r = mem-from 1 64 j (only_e p.part (numbers 64) j m).0 in omega arith

pub members_most : (p : Policy) → length (members p) ≤ 64
unfolding members numbers
members_most p = omega (arith, only_most p.part (numbers 64), length_from 1 64)

-- refusals -------------------------------------------------------------------------------------------------------------------------------

applies-short : (n k : ℕ) (b : Bool) → n < 1000 → k < 10 ^ 20 → Short (applies n k b)
unfolding applies good
applies-short n k b p q = split b (λ t. rw t (record { number = p; place = q })) (λ f. rw f (record { number = omega arith; place = omega arith }))

first_short : (r : Refusal) (l : List Refusal) → Short r → Short (first_of l) → Short (first_of (r ∷ l))
unfolding first_of
first_short r l a b = split (is_good r) (λ t. rw t b) (λ f. rw f a)

none-short : Short (first_of [])
unfolding first_of good
none-short = record { number = omega arith; place = omega arith }

module _ (v : View) (s : Small v) where
  span_most : span v ≤ 65535 + 65535 * 64
  unfolding span
  span_most =
      omega (
        arith,
        largest_most v.policy.arrival 65535 (members v.policy) s.arrival,
        total_most v.hi (members v.policy) s.hi,
        members_most v.policy,
      )

  lowest-short : (n : ℕ) (bad : ℕ → Bool) → n < 1000 → Short (lowest n v bad)
  unfolding lowest placed
  lowest-short n bad p =
      let k = first bad (members v.policy) in
      applies-short n k (not (eqb k 0)) p (omega (arith, first_most bad (members v.policy) (member_most v.policy)))

  fault-short : (n : ℕ) (ok : ℕ → Bool) (m : Level) → n < 1000 → Short (placed n (fault ok (v.policy.order m)))
  unfolding placed fault
  fault-short n ok m p =
      let k = fault_from ok [] 1 (v.policy.order m) in
      applies-short n k (not (eqb k 0)) p (omega (arith, fault_most ok [] 1 (v.policy.order m), s.orders m))

  pub refusal-short : Short (refusal v)
  unfolding refusal checks check_count check_time check_budget check_span check_lo_order check_hi_order
  refusal-short =
      first_short _ _ (applies-short 2 v.count _ (omega arith) (omega (arith, s.count)))
      (first_short _ _ (lowest-short 3 _ (omega arith))
      (first_short _ _ (lowest-short 4 _ (omega arith))
      (first_short _ _ (applies-short 5 (span v) _ (omega arith) (omega (arith, span_most)))
      (first_short _ _ (fault-short 6 _ Lo (omega arith)) (first_short _ _ (fault-short 7 _ Hi (omega arith)) none-short)))))

-- verdicts -------------------------------------------------------------------------------------------------------------------------------

finish_most : (v : View) (x : Scenario) (j : ℕ) → finish_in v x j ≤ suc (span v)
unfolding finish_in mark outcome_in outcome finish_of
finish_most v x j =
    split (dropped_by v.policy (times_of v x) j (switch_of v.policy (times_of v x) (span v)))
    (λ t. rw t (omega arith))
    (λ f. rw f (least_le _ (suc (span v))))

places_most : (v : View) (f : ℕ → ℕ) (b : ℕ) → ((j : ℕ) → f j ≤ b) → (j : ℕ) → at (places v f) j 0 ≤ b
unfolding places
places_most v f b h j =
    at_most (places v f) b
    (map_most (λ i. cond (v.policy.part i) (f i) 0) b (numbers 64)
    (λ i. split (v.policy.part i) (λ t. rw t (h i)) (λ n. rw n (omega arith))))
    j

zeros_most : (b j : ℕ) → at zeros j 0 ≤ b
unfolding zeros
zeros_most b j = at_most zeros b (replicate_most b 64) j

pub worst_most : (v : View) (j : ℕ) → worst v j ≤ suc (span v)
unfolding worst rows row hi_row largest
worst_most v j =
    let b = suc (span v) in
    let in_row : (x : Scenario) → at (row v x) j 0 ≤ b = λ x. places_most v (finish_in v x) b (finish_most v x) j in
    split (critical v.policy j)
    (λ t. rw t
    (omega (
      arith,
      in_row ScenarioLo,
      largest_map_most (λ r. at r j 0) (hi_row v) b (numbers 64)
          (λ i. split (v.policy.part i && critical v.policy i) (λ p. rw p (in_row (ScenarioHi i))) (λ n. rw n (zeros_most b j))),
    )))
    (λ f. rw f (finish_most v ScenarioLo j))

pub times_most : (v : View) → Small v → (x : Scenario) (j : ℕ) → at (times_of v x) j 0 ≤ 65535
unfolding times_of lo_times hi_time
times_most v s ScenarioLo j = places_most v v.policy.lo 65535 s.lo j
times_most v s (ScenarioHi i) j =
    let done = done_at v.policy (lo_times v) (turn v i) in
    places_most v (hi_time v i done) 65535
    (λ k. split (critical v.policy k && (eqb k i || not (done k))) (λ t. rw t (s.hi k)) (λ f. rw f (s.lo k)))
    j

-- a miss names a scenario and a job of the set, and a finish
pub record Within (v : View) (m : Miss) : Type 0 where
  pub scenario : scenario_number m.scenario ≤ 64
  pub job : m.job ≤ 64
  pub finish : m.finish ≤ suc (span v)

pub search-within : (v : View) (m : Miss) (l : List Scenario) → largest scenario_number l ≤ 64 → search v l ≡ Unfit m → Within v m
unfolding search largest late_in
search-within v m [] h e = let z : ◌≡◌ {A = ℕ} 0 1 = cc in absurd (omega arith)
search-within v m (x ∷ l) h e =
    let j = late_in v (times_of v x) in
    split (eqb j 0)
    (λ t. search-within v m l (omega arith) (rw t at e))
    (λ f.
    let u = rw f at e in
    let k : ◌≡◌ {A = Miss} (record { scenario = x; job = j; finish = finish_in v x j }) m = cc in
    subst (Within v) k
    (record {
      scenario = omega arith;
      job = first_most (missed v (times_of v x)) (members v.policy) (member_most v.policy);
      finish = finish_most v x j;
    }))

pub scenarios_most : (v : View) → largest scenario_number (scenarios v) ≤ 64
unfolding scenarios largest scenario_number hi_jobs
scenarios_most v =
    omega (arith, hi_most (hi_jobs v) (λ j m. member_most v.policy j (only_e (critical v.policy) (members v.policy) j m).0))
  where
    hi_most : (l : List ℕ) → ((j : ℕ) → mem j l ≡ true → j ≤ 64) → largest scenario_number (map ScenarioHi l) ≤ 64
    hi_most [] h = omega arith
    hi_most (x ∷ l) h = omega (arith, h x (mem_head x l), hi_most l (λ j m. h j (mem_tail j x l m)))
