-- The search for the first required miss.
--   late-none        == no job is late where required, exactly if the run meets what it requires
--   fit_meets        == the verdict is fit exactly if every scenario meets what it requires
--   unfit_is         == an unfit answer is true of its scenario
-- Assumes nothing.
use Prim.Native.Nat.{ℕ, ◌<◌}
use mathlib.Core.Path.{◌≡◌, refl, sym, ◌∙◌, ap, subst}
use mathlib.Core.Bool.{true, false}
use mathlib.Core.List.{List, [], ◌∷◌, map}
use mathlib.Core.Logic.{◌⊎◌, inl, inr, ⊎_elim, ◌↔◌}
use native.Mathlib.Omega.{arith}
use lib.Dec.{eqb}
use borrow.Author.Tests.{eqb-true, eqb-false, not-true}
use Rattle.model.specs.declared.Scenario.{Scenario}
use Rattle.model.specs.declared.Scenario.TheVariants.{Lo, Hi}
use Rattle.model.specs.declared.Verdict.TheVariants.{Fit, Unfit}
use Rattle.model.specs.declared.Miss.{Miss}
use Rattle.model.specs.Lists.{any, mem}
use Rattle.model.specs.Sets.{View, members, critical}
use Rattle.model.specs.Runs.{missed, meets}
use Rattle.model.specs.Scenarios.{hi_jobs, scenarios, times_of, finish_in, late_in, search, verdict}
use Rattle.theory.specs.Misses.{ScenarioOf, Earlier, Missed}
use Rattle.laws.proofs.Bools.{split, not_i}
use Rattle.laws.proofs.Lists.{mem_head, mem_tail, mem_cases, not_mem_nil, first_some, first-none, first_zero, any_none, any_no}
use Rattle.laws.proofs.Ascending.{Ascending, only_ascending, members_ascending, first-lowest}
use Rattle.laws.proofs.Places.{Placed, members_i, members_e, members_nonzero}
use Rattle.laws.proofs.Checks.{hi_jobs-mem, hi_jobs_i}

-- one scenario ------------------------------------------------------------------------------------------------------------------------

pub late-none : (v : View) (c : List ℕ) → Placed v.policy → (late_in v c ≡ 0) ↔ (meets v c ≡ true)
unfolding late_in meets
late-none v c r =
    let l = members v.policy in (
      λ e. not_i (any_none (missed v c) l (λ j m. first-none (missed v c) l j (members_nonzero v.policy) e m)),
      λ h. first_zero (missed v c) l (λ j m. any_no (missed v c) l j (not-true (any (missed v c) l) h) m),
    )

late_some : (v : View) (c : List ℕ) → (late_in v c ≡ 0 → ⊥) → (mem (late_in v c) (members v.policy) ≡ true) × (missed v c (late_in v c) ≡ true)
unfolding late_in
late_some v c h = first_some (missed v c) (members v.policy) h

late-lowest : (v : View) (c : List ℕ) (i : ℕ) → mem i (members v.policy) ≡ true → i < late_in v c → missed v c i ≡ false
unfolding late_in
late-lowest v c i m q = first-lowest (missed v c) (members v.policy) (members_ascending v.policy) i m q

-- the search --------------------------------------------------------------------------------------------------------------------------

not_fit {ℓ} : {P : Type ℓ} (m : Miss) → Unfit m ≡ Fit → P
not_fit m e = absurd (let z : ◌≡◌ {A = ℕ} 0 1 = cc in omega arith)

search_cons : (v : View) (x : Scenario) (l : List Scenario)
    → (search v (x ∷ l) ≡ Fit) ↔ ((late_in v (times_of v x) ≡ 0) × (search v l ≡ Fit))
unfolding search
search_cons v x l =
    let j : ℕ = late_in v (times_of v x) in
    split (eqb j 0)
    (λ e. rw e (λ h. (eqb-true j 0 e, h), λ h. h.1))
    (λ e. rw e (λ h. not_fit (record { scenario = x; job = j; finish = finish_in v x j }) h, λ h. absurd (eqb-false j 0 e h.0)))

search-hi : (v : View) (l : List ℕ) → (search v (map Hi l) ≡ Fit) ↔ ((J : ℕ) → mem J l ≡ true → late_in v (times_of v (Hi J)) ≡ 0)
unfolding search
search-hi v [] = (λ h J m. not_mem_nil J m, λ h. refl)
search-hi v (x ∷ l) = (
  λ h J m.
      let (e, r) = (search_cons v (Hi x) (map Hi l)).0 h in
      ⊎_elim (λ (z : J ≡ x). subst (λ i. late_in v (times_of v (Hi i)) ≡ 0) (sym z) e) (λ n. (search-hi v l).0 r J n) (mem_cases J x l m),
  λ h. (search_cons v (Hi x) (map Hi l)).1 (h x (mem_head x l), (search-hi v l).1 (λ J m. h J (mem_tail J x l m))),
)

pub fit_meets : (v : View) → Placed v.policy → (verdict v ≡ Fit) ↔ ((x : Scenario) → ScenarioOf v x → meets v (times_of v x) ≡ true)
unfolding verdict scenarios
fit_meets v r = (
  λ h.
      let (e, k) = (search_cons v Lo (map Hi (hi_jobs v))).0 h in
      elim [
        | Lo ↦ λ s. (late-none v (times_of v Lo) r).0 e
        | Hi J ↦ λ s.
            (late-none v (times_of v (Hi J)) r).0 ((search-hi v (hi_jobs v)).0 k J (hi_jobs_i v J r s.0 s.1))
      ],
  λ h.
      (search_cons v Lo (map Hi (hi_jobs v))).1 (
        (late-none v (times_of v Lo) r).1 (h Lo tt),
        (search-hi v (hi_jobs v)).1 (λ J m. (late-none v (times_of v (Hi J)) r).1 (h (Hi J) (hi_jobs-mem v J m))),
      ),
)

-- an unfit answer ---------------------------------------------------------------------------------------------------------------------

-- the miss is the first of its scenario
abbrev FirstLate : View → Miss → Type 0
FirstLate v m =
    (late_in v (times_of v m.scenario) ≡ m.job) × (m.job ≡ 0 → ⊥) × (finish_in v m.scenario m.job ≡ m.finish)

unfit_cons : (v : View) (x : Scenario) (l : List Scenario) (m : Miss) → search v (x ∷ l) ≡ Unfit m
    → ((m.scenario ≡ x) × FirstLate v m) ⊎ ((late_in v (times_of v x) ≡ 0) × (search v l ≡ Unfit m))
unfolding search
unfit_cons v x l m h =
    let j : ℕ = late_in v (times_of v x) in
    let a : Miss = record { scenario = x; job = j; finish = finish_in v x j } in
    split (eqb j 0)
    (λ e. inr (eqb-true j 0 e, rw e at h))
    (λ e.
    let u : Unfit a ≡ Unfit m = rw e at h in
    let z : a ≡ m = cc in
    inl (
      ap (λ (y : Miss). y.scenario) (sym z),
      subst (λ (y : Miss). FirstLate v y) z (refl, eqb-false j 0 e, refl),
    ))

unfit_hi : (v : View) (l : List ℕ) (m : Miss) → Ascending l → search v (map Hi l) ≡ Unfit m
    → FirstLate v m × ((J : ℕ) × (m.scenario ≡ Hi J) × (mem J l ≡ true) × ((I : ℕ) → mem I l ≡ true → I < J → late_in v (times_of v (Hi I)) ≡ 0))
unfolding search Ascending
unfit_hi v [] m r h = not_fit m (sym h)
unfit_hi v (x ∷ l) m (s, r) h =
    ⊎_elim
    (λ (e, f). (
      f,
      (x, e, mem_head x l, λ I n q. ⊎_elim (λ z. absurd (omega (arith, z))) (λ n'. absurd (omega (arith, s I n'))) (mem_cases I x l n)),
    ))
    (λ (z, k).
    let (f, (J, e, mJ, low)) = unfit_hi v l m r k in (
      f,
      (
        J,
        e,
        mem_tail J x l mJ,
        λ I n q.
            ⊎_elim (λ (y : I ≡ x). subst (λ i. late_in v (times_of v (Hi i)) ≡ 0) (sym y) z) (λ n'. low I n' q) (mem_cases I x l n),
      ),
    ))
    (unfit_cons v (Hi x) (map Hi l) m h)

no_earlier {ℓ} : {P : Type ℓ} (x : Scenario) → Earlier x Lo → P
no_earlier Lo q = absurd q
no_earlier (Hi I) q = absurd q

-- where scenario LO has no miss, and no row of a lower job, no scenario before Hi J has one
earlier_none : (v : View) (J : ℕ) → Placed v.policy → late_in v (times_of v Lo) ≡ 0
    → ((I : ℕ) → mem I (hi_jobs v) ≡ true → I < J → late_in v (times_of v (Hi I)) ≡ 0)
    → (x : Scenario) → ScenarioOf v x → Earlier x (Hi J) → late_in v (times_of v x) ≡ 0
earlier_none v J r z low Lo s q = z
earlier_none v J r z low (Hi I) s q = low I (hi_jobs_i v I r s.0 s.1) q

unfit_where : (v : View) → Placed v.policy → (m : Miss) → verdict v ≡ Unfit m
    → FirstLate v m × ScenarioOf v m.scenario × ((x : Scenario) → ScenarioOf v x → Earlier x m.scenario → meets v (times_of v x) ≡ true)
unfolding verdict scenarios hi_jobs
unfit_where v r m h =
    ⊎_elim
    (λ (e, f). (f, subst (ScenarioOf v) (sym e) tt, λ x s q. no_earlier x (subst (Earlier x) e q)))
    (λ (z, k).
    let up = only_ascending (critical v.policy) (members v.policy) (members_ascending v.policy) in
    let (f, (J, e, mJ, low)) = unfit_hi v (hi_jobs v) m up k in (
      f,
      subst (ScenarioOf v) (sym e) (hi_jobs-mem v J mJ),
      λ x s q. (late-none v (times_of v x) r).0 (earlier_none v J r z low x s (subst (Earlier x) e q)),
    ))
    (unfit_cons v Lo (map Hi (hi_jobs v)) m h)

-- an unfit answer is true of its scenario
pub unfit_is : (v : View) → Placed v.policy → (m : Miss) → verdict v ≡ Unfit m → Missed v m
unfit_is v r m h =
    let p = v.policy in
    let (f, s, early) = unfit_where v r m h in
    let c = times_of v m.scenario in
    let (n, l) = late_some v c (λ z. f.1 (sym f.0 ∙ z)) in
    record {
      scenario = s;
      job = members_e p m.job (subst (λ j. mem j (members p) ≡ true) f.0 n);
      misses = subst (λ j. missed v c j ≡ true) f.0 l;
      finish = f.2;
      lowest = λ i a q. late-lowest v c i (members_i p i r a) (omega (arith, f.0, q));
      earliest = early;
    }
