-- Parts of the text, one after the other.
--   stuck_in             == the text is stuck in the first of two parts
--   goes_on, gives       == behind it the second is read; or what was read of it is answered
--   number_stuck, number_read, given_stuck, given_read   == what `fields` tells of a number, and of given bytes
-- Assumes nothing.
use Prim.Native.Nat.{ℕ, ◌+◌, ◌-◌, ◌*◌, ◌≤◌}
use mathlib.Core.Path.{◌≡◌, refl, sym, ◌∙◌, ap}
use mathlib.Core.List.{List, [], ◌∷◌}
use native.Mathlib.Omega.{arith}
use lib.Dec.{eqb}
use lib.ListN.{length, drop}
use Rattle.std.specs.Prelude.{Result, Ok, Err}
use Rattle.std.proofs.lemmas.Result.{IfErr-at_err}
use Rattle.laws.proofs.Bools.{split}
use Rattle.forms.specs.Forms.{Form, scan, then, begins, grows, more, number}
use Rattle.forms.specs.Forms.Piece.{got, short}
use Rattle.forms.proofs.Numbers.{begins_e, grows_e}
use Rattle.forms.specs.Forms.Form.{field}
use Rattle.fields.specs.declared.Got.{Got}
use Rattle.fields.specs.declared.Stuck.{Stuck}
use Rattle.fields.specs.Cursors.{piece_at, reached, Found, onward, stands, Steps}
use Rattle.plan_text.specs.declared.reader.Reader.{Reader}
use Rattle.plan_text.specs.Parts.{led, Takes}

module _ {A V : Type 0} (r : Reader) (part : (A → Form) → Form) (s : Reader) (seen : V → A) (a : Result V Stuck) (z : Takes r part s seen a) where
  pub stuck_in : {B W : Type 0} (e : Stuck) → a ≡ Err e → (rest : (B → Form) → A → Form) (q : Reader) (look : W → B) → q.text ≡ r.text
      → Takes r (λ f. part (rest f)) q look (Err e)
  unfolding led
  stuck_in e p rest q look h =
      record {
        goes = λ f. z.goes (rest f) ∙ ap (led r.text.now s.at (λ v. rest f (seen v))) p;
        within = IfErr-at_err (λ (e : Stuck). e.at ≤ length r.text.now) p z.within;
        same = h;
      }

  module _ (x : V) (p : a ≡ Ok x) where
    pub goes_on : {B W : Type 0} (rest : (B → Form) → A → Form) (q : Reader) (look : W → B) (b : Result W Stuck)
        → Takes s (λ f. rest f (seen x)) q look b → Takes r (λ f. part (rest f)) q look b
    unfolding led
    goes_on rest q look b y =
        record {
          goes = λ f. z.goes (rest f) ∙ ap (led r.text.now s.at (λ v. rest f (seen v))) p ∙ (rw z.same at (y.goes f));
          within = rw z.same at y.within;
          same = y.same ∙ z.same;
        }

    pub gives : {B W : Type 0} (g : A → B) (look : W → B) (y : W) → g (seen x) ≡ look y → Takes r (λ f. part (λ v. f (g v))) s look (Ok y)
    unfolding led
    gives g look y e =
        record {
          goes = λ f. z.goes (λ v. f (g v)) ∙ ap (led r.text.now s.at (λ v. f (g (seen v)))) p ∙ ap (λ b. scan (f b) (drop s.at r.text.now)) e;
          within = tt;
          same = z.same;
        }

more_most : (most c v : ℕ) (t : List ℕ) (n : ℕ) (u : List ℕ) → v ≤ most → more most c v t ≡ got n u → n ≤ most
unfolding more
more_most most c v [] n u h e = cc
more_most most c v (b ∷ t) n u h e =
    split (eqb b c)
    (λ y. let z : v ≡ n = (let k : got v t ≡ got n u = rw y at e in cc) in omega arith)
    (λ y.
    split (grows most v b)
    (λ g. more_most most c (v * 10 + (b - 48)) t n u (grows_e most v b g).3 (rw (y, g) at e))
    (λ g. let k : short (b ∷ t) ≡ got n u = rw (y, g) at e in cc))

-- a number that is read lies in its range
number_most : (least most c : ℕ) (t : List ℕ) (n : ℕ) (u : List ℕ) → number least most c t ≡ got n u → n ≤ most
unfolding number
number_most least most c [] n u e = cc
number_most least most c (b ∷ t) n u e =
    split (begins least most b)
    (λ y. more_most most c (b - 48) t n u (begins_e least most b y).3 (rw y at e))
    (λ y. let k : short (b ∷ t) ≡ got n u = rw y at e in cc)

module _ (r : Reader) (least most c : ℕ) (a : Result Got Stuck) (z : Found r.text.now r.at (number least most c) a) where
  pub number_stuck : (e : Stuck) → a ≡ Err e → Takes {V = ℕ} r (field least most c) r (λ x. x) (Err e)
  unfolding scan led piece_at then reached
  number_stuck e p =
      record {
        goes = λ f. ap (λ q. then q (λ n u. scan (f n) u)) (sym z.piece ∙ ap (piece_at r.text.now) p);
        within = (rw p at z).within;
        same = refl;
      }

  pub number_within : (g : Got) → a ≡ Ok g → g.value ≤ most
  unfolding piece_at
  number_within g p = number_most least most c (drop r.at r.text.now) g.value (drop g.at r.text.now) (sym z.piece ∙ ap (piece_at r.text.now) p)

  pub number_read : (g : Got) → a ≡ Ok g → Takes r (field least most c) (record { text = r.text; at = g.at }) (λ x. x) (Ok g.value)
  unfolding scan led piece_at then
  number_read g p =
      record {
        goes = λ f. ap (λ q. then q (λ n u. scan (f n) u)) (sym z.piece ∙ ap (piece_at r.text.now) p);
        within = tt;
        same = refl;
      }

module _ (r : Reader) (part : Form → Form) (a : Result ℕ Stuck) (z : Steps r.text.now r.at part a) where
  pub given_stuck : (e : Stuck) → a ≡ Err e → Takes {V = Unit {0}} r (λ f. part (f (tt {0}))) r (λ x. x) (Err e)
  unfolding led onward stands
  given_stuck e p =
      record {
        goes = λ f. z.goes (f (tt {0})) ∙ ap (onward r.text.now (f (tt {0}))) p;
        within = (rw p at z).within;
        same = refl;
      }

  pub given_read : (p : ℕ) → a ≡ Ok p → Takes r (λ f. part (f (tt {0}))) (record { text = r.text; at = p }) (λ x. x) (Ok (tt {0}))
  unfolding led onward
  given_read p h =
      record {
        goes = λ f. z.goes (f (tt {0})) ∙ ap (onward r.text.now (f (tt {0}))) h;
        within = tt;
        same = refl;
      }
