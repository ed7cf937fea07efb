-- What the reader answers.
--   accepted_iff   == a text is well-formed exactly if its scan gives a set
--   stuck-not      == a text whose scan is stuck is not well-formed;  stuck-place: and its place is where what is left begins
--   reads          == the answer by the scan is the one that document 01 asks for
-- Assumes nothing.
use Prim.Native.Nat.{ℕ, suc, ◌+◌, ◌-◌, ◌≤◌}
use mathlib.Core.Path.{◌≡◌, refl, sym, ◌∙◌, ap, subst, subst₂}
use mathlib.Core.List.{List, [], ◌∷◌, ◌++◌, append_assoc}
use mathlib.Core.Logic.{inl, inr, ◌↔◌}
use native.Mathlib.Omega.{arith}
use lib.Dec.{leb}
use lib.ListN.{length, take, length-append}
use lib.Seq.{take-append_seam, take-append-add}
use Rattle.model.specs.declared.Set.{Set}
use Rattle.model.specs.Texts.{WellFormed, Opening, Place, Reads}
use Rattle.forms.specs.Forms.{Scanned, read, stuck, scan, plan, answered}
use Rattle.laws.proofs.Bools.{tests, split}
use Rattle.forms.proofs.Scans.{not-read, scan-stuck}
use Rattle.forms.proofs.Sections.{plan_sane}
use Rattle.forms.proofs.Accepted.{accepts, accepted}

pub accepted_iff : (t : List ℕ) → WellFormed t ↔ ((s : Set) × (scan plan t ≡ read s))
accepted_iff t = (λ w. (w.0, accepts t w.0 w.1), λ h. (h.0, accepted t h.0 h.1))

-- p can be completed, and what stands behind it cannot follow it: so p is the longest opening
module _ (p : List ℕ) where
  abbrev Halts : List ℕ → Type 0
  Halts l = (b : ℕ) (r w : List ℕ) → l ≡ b ∷ r → scan plan (p ++ (b ∷ w)) ≡ stuck (b ∷ w)

  not-longer : (l : List ℕ) (k : ℕ) → Halts l → length p + suc k ≤ length (p ++ l) → Opening (take (length p + suc k) (p ++ l)) → ⊥
  not-longer [] k h q o = omega (arith, length-append p [])
  not-longer (b ∷ l) k h q (u, (s, f)) =
      let e : take (length p + suc k) (p ++ (b ∷ l)) ++ u ≡ p ++ (b ∷ (take k l ++ u)) =
      ap (λ y. y ++ u) (take-append-add p (b ∷ l) (suc k)) ∙ append_assoc p (b ∷ take k l) u
      in
      not-read (sym (ap (scan plan) e) ∙ accepts (take (length p + suc k) (p ++ (b ∷ l)) ++ u) s f) (h b l (take k l ++ u) refl)

  opening_place : (l u : List ℕ) (s : Set) → scan plan (p ++ u) ≡ read s → Halts l → Place (p ++ l) (length p)
  opening_place l u s e h =
      record {
        prefix = omega (arith, length-append p l);
        begins =
            (u, (s, accepted (take (length p) (p ++ l) ++ u) s (ap (λ y. scan plan (y ++ u)) (take-append_seam p l) ∙ e)));
        longest =
            λ m q o.
            split (leb m (length p))
            (λ y. omega (tests, y))
            (λ y.
            let z : m ≡ length p + suc (m - suc (length p)) = omega (tests, y) in
            absurd
            (not-longer l (m - suc (length p)) h (omega arith) (subst (λ i. Opening (take i (p ++ l))) z o)));
      }

module _ (t l : List ℕ) (h : scan plan t ≡ stuck l) where
  pub stuck-not : WellFormed t → ⊥
  stuck-not w = not-read (accepts t w.0 w.1) h

  pub stuck-place : Place t (length t - length l)
  stuck-place =
      let x = scan-stuck plan plan_sane t l h in
      let p = x.start in
      let e : length p ≡ length t - length l = omega (arith, ap length x.parts, length-append p l) in
      subst₂ Place (sym x.parts) e (opening_place p l x.completes.0 x.completes.1 x.completes.2 x.halts)

pub reads : (t : List ℕ) → Reads t (answered t (scan plan t))
reads t = by-scan (scan plan t) refl
  where
    by-scan : (x : Scanned) → scan plan t ≡ x → Reads t (answered t x)
    by-scan (read s) h = unfold answered in inl (record { refusal = refl; set = accepted t s h })
    by-scan (stuck l) h =
        unfold answered in
        inr (record { form = stuck-not t l h; number = refl; place = stuck-place t l h; set = refl })
