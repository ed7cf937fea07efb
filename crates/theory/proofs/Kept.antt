-- The set without some jobs is sound where the set is.
--   old_keep, old_one            == an old number is a job's that stays, and of one new number only
--   new_part, new_old            == a new number is a job's; the new number of an old one is the number itself
--   closed_names, closed-only, closed_once  == whom an order with some left out names, once each
--   without_ordered, without-sound  == the set without some jobs
-- Assumes nothing.
use Prim.Native.Nat.{ℕ, ◌-◌, ◌≤◌}
use mathlib.Core.Path.{◌≡◌, sym, ◌∙◌, ap, subst}
use mathlib.Core.Bool.{Bool, true}
use mathlib.Core.List.{List, map}
use native.Mathlib.Omega.{arith}
use lib.Dec.{leb}
use lib.ListN.{length}
use Rattle.model.specs.declared.Level.TheVariants.{Lo, Hi}
use Rattle.model.specs.declared.Job.{Job}
use Rattle.model.specs.declared.Set.{Set}
use Rattle.model.specs.Lists.{at, from, numbers, only, mem}
use Rattle.model.specs.Sets.{view, critical, is_hi, order_of}
use Rattle.laws.proofs.Lists.{distinct}
use Rattle.theory.specs.Without.{kept, old_number, new_number, closed, without}
use Rattle.laws.proofs.Bools.{tests, split}
use Rattle.laws.proofs.Lists.{only_i, only_e}
use Rattle.laws.proofs.Sums.{from-distinct, only-distinct}
use Rattle.theory.proofs.Orders.{map-mem}
use Rattle.laws.proofs.Places.{Placed, at_in, at_out}
use Rattle.laws.proofs.Sound.{Ordered, Sound}
use Rattle.theory.proofs.Counting.{map_e, map-distinct, get_or_one, weaker_span}
use Rattle.laws.proofs.Pigeonhole.{length_from, only_most}
use Rattle.theory.proofs.Embeddings.{part_i, part_e}
use Rattle.theory.proofs.Without.{at_mem, without-count, without-job, without-lo, without-hi, old_part, old_new, without_weaker}

at_place : (l : List ℕ) (i : ℕ) → 1 ≤ at l i 0 → (1 ≤ i) × (i ≤ length l)
unfolding at
at_place l i h =
    split (leb 1 i)
    (λ p. split (leb i (length l)) (λ q. omega (tests, p, q)) (λ q. absurd (omega (tests, at_out l i 0 (omega (tests, q))))))
    (λ p. let z : i ≡ 0 = omega (tests, p) in absurd (omega (arith, rw z at h)))

at_one : (l : List ℕ) (i k : ℕ) → distinct l ≡ true → (1 ≤ i) × (i ≤ length l) → (1 ≤ k) × (k ≤ length l) → at l i 0 ≡ at l k 0 → i ≡ k
at_one l i k d p q e =
    let r = get_or_one l (i - 1) (k - 1) 0 d (omega arith) (omega arith) (sym (at_in l i 0 p.0) ∙ e ∙ at_in l k 0 q.0) in
    omega (arith, r)

module _ (keep : ℕ → Bool) (s : Set) where
  stays : (i : ℕ) → (view (without keep s)).policy.part i ≡ true → (1 ≤ i) × (i ≤ length (kept keep s))
  stays i h = let r = part_e (without keep s) i h in omega (arith, r, without-count keep s)

  pub old_keep : (i : ℕ) → (view (without keep s)).policy.part i ≡ true → keep (old_number keep s i) ≡ true
  unfolding old_number kept
  old_keep i h = let r = stays i h in (only_e keep (numbers s.count) (old_number keep s i) (at_mem (kept keep s) i 0 r.0 r.1)).1

  kept-distinct : distinct (kept keep s) ≡ true
  unfolding kept numbers
  kept-distinct = only-distinct keep (from 1 s.count) (from-distinct 1 s.count)

  pub old_one : (i k : ℕ) → (view (without keep s)).policy.part i ≡ true → (view (without keep s)).policy.part k ≡ true
      → old_number keep s i ≡ old_number keep s k → i ≡ k
  unfolding old_number
  old_one i k p q e = at_one (kept keep s) i k kept-distinct (stays i p) (stays k q) e

  pub new_part : (j : ℕ) → (view s).policy.part j ≡ true → keep j ≡ true → (view (without keep s)).policy.part (new_number keep j) ≡ true
  unfolding old_number
  new_part j h t =
      let r = at_place (kept keep s) (new_number keep j) (omega (arith, old_new keep s j h t, part_e s j h)) in
      part_i (without keep s) (new_number keep j) r.0 (omega (arith, r, without-count keep s))

  pub new_old : (i : ℕ) → (view (without keep s)).policy.part i ≡ true → new_number keep (old_number keep s i) ≡ i
  new_old i h =
      let p = old_part keep s i h in
      let t = old_keep i h in
      old_one (new_number keep (old_number keep s i)) i (new_part (old_number keep s i) p t) h (old_new keep s (old_number keep s i) p t)

  -- orders that are closed up ----------------------------------------------------------------------------------------------------------

  pub closed_names : (l : List ℕ) (i : ℕ) → (view (without keep s)).policy.part i ≡ true → mem (old_number keep s i) l ≡ true
      → mem i (closed keep l) ≡ true
  unfolding closed
  closed_names l i h m =
      subst (λ k. mem k (map (new_number keep) (only keep l)) ≡ true) (new_old i h)
      (map-mem (new_number keep) (only keep l) (old_number keep s i) (only_i keep l (old_number keep s i) m (old_keep i h)))

  module _ (l : List ℕ) (jobs : (j : ℕ) → mem j l ≡ true → (view s).policy.part j ≡ true) where
    pub closed-only : (i : ℕ) → mem i (closed keep l) ≡ true
        → ((view (without keep s)).policy.part i ≡ true) × (mem (old_number keep s i) l ≡ true)
    unfolding closed
    closed-only i m =
        let r = map_e (new_number keep) (only keep l) i m in
        let k = only_e keep l r.0 r.1 in
        rw r.2 (
          new_part r.0 (jobs r.0 k.0) k.1,
          rw (old_new keep s r.0 (jobs r.0 k.0) k.1) k.0,
        )

    pub closed_once : distinct l ≡ true → distinct (closed keep l) ≡ true
    unfolding closed
    closed_once d =
        map-distinct (new_number keep) (only keep l) (only-distinct keep l d)
        (λ a b p q e.
        let x = only_e keep l a p in
        let y = only_e keep l b q in
        sym (old_new keep s a (jobs a x.0) x.1) ∙ ap (old_number keep s) e ∙ old_new keep s b (jobs b y.0) y.1)

  -- the set ----------------------------------------------------------------------------------------------------------------------------

  pub without-critical : (i : ℕ) → critical (view (without keep s)).policy i ≡ critical (view s).policy (old_number keep s i)
  unfolding critical view
  without-critical i = ap (λ (a : Job). is_hi a.level) (without-job keep s i)

  kept_few : length (kept keep s) ≤ s.count
  unfolding kept numbers
  kept_few = omega (arith, only_most keep (from 1 s.count), length_from 1 s.count)

  without-room : Placed (view s).policy → Placed (view (without keep s)).policy
  without-room r i h =
      let a = stays i h in
      let b = r s.count (part_i s s.count (omega (arith, a, kept_few)) (omega arith)) in
      omega (arith, a, b, kept_few)

  pub without_ordered : Ordered (view s).policy → Ordered (view (without keep s)).policy
  unfolding view
  without_ordered o =
      let lo = order_of s Lo in
      let hi = order_of s Hi in
      let hi_jobs : (j : ℕ) → mem j hi ≡ true → (view s).policy.part j ≡ true = λ j m. (o.hi_only j m).0 in
      record {
        room = without-room o.room;
        lo_names = λ i h. rw (without-lo keep s) (closed_names lo i h (o.lo_names (old_number keep s i) (old_part keep s i h)));
        lo_only = λ i m. (closed-only lo o.lo_only i (rw (without-lo keep s) at m)).0;
        lo_once = rw (without-lo keep s) (closed_once lo o.lo_only o.lo_once);
        hi_names = λ i h c.
            rw (without-hi keep s)
            (closed_names hi i h (o.hi_names (old_number keep s i) (old_part keep s i h) (sym (without-critical i) ∙ c)));
        hi_only = λ i m.
            let r = closed-only hi hi_jobs i (rw (without-hi keep s) at m) in
            (r.0, without-critical i ∙ (o.hi_only (old_number keep s i) r.1).1);
        hi_once = rw (without-hi keep s) (closed_once hi hi_jobs o.hi_once);
      }

  pub without-sound : Sound (view s) → Sound (view (without keep s))
  unfolding view
  without-sound o =
      let wo = without_ordered o.ordered in
      record {
        ordered = wo;
        timely = λ i h. rw (without-job keep s i) (o.timely (old_number keep s i) (old_part keep s i h));
        some = λ i h. rw (without-job keep s i) (o.some (old_number keep s i) (old_part keep s i h));
        equal = λ i h c.
            rw (without-job keep s i) (o.equal (old_number keep s i) (old_part keep s i h) (sym (without-critical i) ∙ c));
        above = λ i h c.
            rw (without-job keep s i) (o.above (old_number keep s i) (old_part keep s i h) (sym (without-critical i) ∙ c));
        bounded =
            omega (
              arith,
              o.bounded,
              weaker_span (old_number keep s) (view (without keep s)) (view s) wo o.ordered (without_weaker keep s o.ordered),
            );
      }
