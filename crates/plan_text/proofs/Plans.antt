-- A plan text, section by section.
--   Stands t s f             == the reader s has come so far in the text t that what is left is to be of the form f
--   stands_first             == nothing has been read
--   stands_on, stands_stuck  == a part has been read; the text is stuck in it
--   jobs_read, jobs_stuck    == the same of the jobs;  orders n js: the form of what is left behind them
--   lo_read, lo_stuck        == of the LO order;  last js lo: the form of what is left behind it
--   hi_read, hi_stuck        == of the HI order;  whole js lo hi: the set of all
--   more_stands, ended       == more stands behind the whole; nothing does
--   reads_set, reads_stuck   == so the reader's answer is the one that is asked for
-- Assumes nothing.
use Prim.Native.Nat.{ℕ, ◌-◌, ◌≤◌, ◌<◌}
use mathlib.Core.Path.{◌≡◌, refl, sym, ◌∙◌, ap, subst}
use mathlib.Core.List.{List, [], ◌++◌}
use native.Mathlib.Omega.{arith}
use lib.ListN.{length, drop, replicate, drop_of_length-le, length-drop}
use Rattle.std.proofs.Common.{Bor}
use Rattle.std.proofs.lemmas.List.{drop-replicate}
use Rattle.std.proofs.lemmas.Result.{IfErr-at_err, MatchResult-at_ok, MatchResult-at_err}
use Rattle.std.specs.Prelude.{Result, Ok, Err}
use Rattle.model.specs.declared.Job.{Job}
use Rattle.model.specs.declared.Order.{Order}
use Rattle.model.specs.declared.Set.{Set}
use Rattle.model.specs.Sets.{blank, set}
use Rattle.model.specs.declared.Reading.{Reading}
use Rattle.model.specs.Refusals.{good}
use Rattle.model.specs.Texts.{ones, Reads}
use Rattle.forms.specs.Forms.{Form, scan, plan, lf, jobs, order, sections, answered}
use Rattle.forms.proofs.Reader.{reads}
use Rattle.readings.specs.Readings.{answer, refused_at}
use Rattle.forms.specs.Forms.Form.{done, field}
use Rattle.fields.specs.declared.Stuck.{Stuck}
use Rattle.fields.proofs.Digits.{here}
use Rattle.plan_text.specs.declared.reader.Reader.{Reader}
use Rattle.plan_text.specs.Parts.{order_with, led, Takes, Ends, scanned, PlanRead}

module _ (t : List ℕ) where
  pub record Stands (s : Reader) (f : Form) : Type 0 where
    pub goes : scan plan t ≡ scan f (drop s.at t)
    pub same : s.text.now ≡ t

  module _ {A V : Type 0} (s : Reader) (part : (A → Form) → Form) (f : A → Form) (g : Stands s (part f)) (q : Reader) (seen : V → A)
      (a : Result V Stuck) (z : Takes s part q seen a) where
    bound : (e : Stuck) → a ≡ Err e → e.at ≤ length t
    bound e p = rw (← g.same) (IfErr-at_err (λ (e : Stuck). e.at ≤ length s.text.now) p z.within)

    pub stands_stuck : (e : Stuck) → a ≡ Err e → PlanRead t (Err e)
    unfolding led scanned
    stands_stuck e p = record { goes = g.goes ∙ rw (← g.same) (z.goes f ∙ rw p); within = bound e p }

    pub stands_on : (x : V) → a ≡ Ok x → Stands q (f (seen x))
    unfolding led
    stands_on x p = record { goes = g.goes ∙ rw (← g.same) (z.goes f ∙ rw p); same = ap (λ (b : Bor (List ℕ)). b.now) z.same ∙ g.same }

pub stands_first : (x : Bor (List ℕ)) → Stands x.now (record { text = x; at = 0 }) (field 1 64 10 sections)
unfolding plan lf
stands_first x = record { goes = refl; same = refl }

abbrev pub whole : List Job → Order → Order → Set
whole js lo hi = record { jobs = js ++ replicate (64 - length js) blank; count = length js; lo = lo; hi = hi }

abbrev pub last : List Job → Order → Form
last js lo = order (ones js) (λ l. done (whole js lo (order_with l)))

abbrev pub orders : ℕ → List Job → Form
orders n js = order n (λ l. last js (order_with l))

module _ (t : List ℕ) (s : Reader) (n : ℕ) (g : Stands t s (sections n)) (m : ℕ) (w : m ≡ n) (q : Reader) (look : Unit {0} → List Job)
    (a : Result (Unit {0}) Stuck) (z : Takes s (jobs m []) q look a) where
  behind : Stands t s (jobs n [] (orders n))
  unfolding sections set order_with
  behind = g

  section : Takes s (jobs n []) q look a
  section = rw (← w) z

  pub jobs_stuck : (e : Stuck) → a ≡ Err e → PlanRead t (Err e)
  jobs_stuck = stands_stuck t s (jobs n []) (orders n) behind q look a section

  pub jobs_read : (x : Unit {0}) → a ≡ Ok x → Stands t q (orders n (look x))
  jobs_read = stands_on t s (jobs n []) (orders n) behind q look a section

module _ (t : List ℕ) (s : Reader) (n : ℕ) (js : List Job) (g : Stands t s (orders n js)) (q : Reader) (a : Result Order Stuck)
    (z : Takes s (λ f. order n (λ l. f (order_with l))) q (λ o. o) a) where
  pub lo_stuck : (e : Stuck) → a ≡ Err e → PlanRead t (Err e)
  lo_stuck = stands_stuck t s (λ f. order n (λ l. f (order_with l))) (last js) g q (λ o. o) a z

  pub lo_read : (o : Order) → a ≡ Ok o → Stands t q (last js o)
  lo_read = stands_on t s (λ f. order n (λ l. f (order_with l))) (last js) g q (λ o. o) a z

module _ (t : List ℕ) (s : Reader) (js : List Job) (lo : Order) (g : Stands t s (last js lo)) (m : ℕ) (w : m ≡ ones js) (q : Reader)
    (a : Result Order Stuck) (z : Takes s (λ f. order m (λ l. f (order_with l))) q (λ o. o) a) where
  section-hi : Takes s (λ f. order (ones js) (λ l. f (order_with l))) q (λ o. o) a
  section-hi = rw (← w) z

  pub hi_stuck : (e : Stuck) → a ≡ Err e → PlanRead t (Err e)
  hi_stuck = stands_stuck t s (λ f. order (ones js) (λ l. f (order_with l))) (λ o. done (whole js lo o)) g q (λ o. o) a section-hi

  pub hi_read : (o : Order) → a ≡ Ok o → Stands t q (done (whole js lo o))
  hi_read = stands_on t s (λ f. order (ones js) (λ l. f (order_with l))) (λ o. done (whole js lo o)) g q (λ o. o) a section-hi

module _ (t : List ℕ) (s : Reader) (u : Set) (g : Stands t s (done u)) (a : Result (Unit {0}) Stuck)
    (z : Ends s a) where
  pub more_stands : (e : Stuck) → a ≡ Err e → PlanRead t (Err e)
  unfolding scan scanned
  more_stands e p =
      let (i, h) = MatchResult-at_err (λ _. length s.text.now ≤ s.at) (λ (e : Stuck). (e.at ≡ s.at) × (s.at < length s.text.now)) e p z in
      let k : s.at < length t = omega (arith, ap length g.same) in
      record { goes = g.goes ∙ rw (i, here t s.at k); within = omega arith }

  pub ended : (x : Unit {0}) → a ≡ Ok x → (js : List Job) (lo hi : Order) → u ≡ whole js lo hi → (n : ℕ) → length js ≡ n → (room : List Job) → room ≡ replicate 64 blank
      → PlanRead t (Ok (record { jobs = js ++ drop n room; count = n; lo = lo; hi = hi }))
  unfolding scan scanned
  ended x p js lo hi e n k room o =
      let h = MatchResult-at_ok (λ _. length s.text.now ≤ s.at) (λ (e : Stuck). (e.at ≡ s.at) × (s.at < length s.text.now)) x p z in
      let i : length t ≤ s.at = omega (arith, ap length g.same) in
      record { goes = g.goes ∙ rw (drop_of_length-le t i, e, o, drop-replicate n 64 blank, k); within = tt }

-- the answer by the scan is the one that document 01 asks for
module _ (t : List ℕ) (x : Reading) where
  as_scanned : x ≡ answered t (scan plan t) → Reads t x
  as_scanned e = subst (Reads t) (sym e) (reads t)

  pub reads_set : (s : Set) → PlanRead t (Ok s) → x ≡ answer 0 0 s → Reads t x
  unfolding scanned answered answer good
  reads_set s z e = as_scanned (e ∙ sym (ap (answered t) z.goes))

  pub reads_stuck : (e : Stuck) → PlanRead t (Err e) → x ≡ refused_at e.at → Reads t x
  unfolding scanned answered refused_at answer
  reads_stuck e z y =
      let k : e.at ≡ length t - length (drop e.at t) = omega (arith, length-drop e.at t, z.within) in
      as_scanned (y ∙ rw (z.goes, ← k))
