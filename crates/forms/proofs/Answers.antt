-- The reader's answer to a text is one.
--   one_set        == a text has one set
--   one_place      == and one place
--   one_reading    == document 01 admits one answer to a text;  reads_iff: the one by the scan
-- Assumes nothing.
use Prim.Native.Nat.{ℕ}
use mathlib.Core.Path.{◌≡◌, sym, ◌∙◌, subst}
use mathlib.Core.List.{List}
use mathlib.Core.Logic.{inl, inr, ◌↔◌}
use native.Mathlib.Omega.{arith}
use Rattle.model.specs.declared.Set.{Set}
use Rattle.model.specs.declared.Refusal.{Refusal}
use Rattle.model.specs.declared.Reading.{Reading}
use Rattle.model.specs.Texts.{TextOf, Place, Reads}
use Rattle.forms.specs.Forms.{read, scan, plan, answered}
use Rattle.forms.proofs.Accepted.{accepts}
use Rattle.forms.proofs.Reader.{reads}

pub one_set : (t : List ℕ) (s u : Set) → TextOf s t → TextOf u t → s ≡ u
one_set t s u a b = let e : read s ≡ read u = sym (accepts t s a) ∙ accepts t u b in cc

pub one_place : (t : List ℕ) (n m : ℕ) → Place t n → Place t m → n ≡ m
one_place t n m a b = omega (arith, a.longest m b.prefix b.begins, b.longest n a.prefix a.begins)

same-refusal : (r q : Refusal) → r.number ≡ q.number → r.place ≡ q.place → r ≡ q
same-refusal r q a b = λ i. record { number = a i; place = b i }

same_reading : (r q : Reading) → r.refusal ≡ q.refusal → r.set ≡ q.set → r ≡ q
same_reading r q a b = λ i. record { refusal = a i; set = b i }

pub one_reading : (t : List ℕ) (r q : Reading) → Reads t r → Reads t q → r ≡ q
one_reading t r q (inl a) (inl b) = same_reading r q (a.refusal ∙ sym b.refusal) (one_set t r.set q.set a.set b.set)
one_reading t r q (inl a) (inr b) = absurd (b.form (r.set, a.set))
one_reading t r q (inr a) (inl b) = absurd (a.form (q.set, b.set))
one_reading t r q (inr a) (inr b) =
    same_reading r q
    (same-refusal r.refusal q.refusal (a.number ∙ sym b.number)
    (one_place t r.refusal.place q.refusal.place a.place b.place))
    (a.set ∙ sym b.set)

pub reads_iff : (t : List ℕ) (r : Reading) → Reads t r ↔ (r ≡ answered t (scan plan t))
reads_iff t r =
    (λ a. one_reading t r (answered t (scan plan t)) a (reads t), λ e. subst (Reads t) (sym e) (reads t))
