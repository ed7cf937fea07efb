-- As many parts as there is room for, one after the other, each of which reads one value.
--   Begun whole rest r n s v i  == from r on the values before place i of n have been read: the scan of the whole is that of the rest, from s on
--   begun                       == none has been read
--   one_more, one_stuck         == one more has been read; the text is stuck in it
--   all_read                    == all have been read
-- Assumes nothing.
use Prim.Native.Nat.{ℕ, ◌+◌, ◌≤◌, ◌<◌}
use mathlib.Core.Path.{◌≡◌, refl, ◌∙◌, ap}
use mathlib.Core.List.{List, [], ◌∷◌, ◌++◌}
use native.Mathlib.Omega.{arith}
use native.Mathlib.Numerals.{add-one}
use lib.ListN.{length, take, drop, set, length-set}
use lib.Seq.{take-suc-set, take-length}
use Rattle.std.proofs.Common.{Bor}
use Rattle.std.proofs.lemmas.Result.{IfErr-at_err}
use Rattle.std.specs.Prelude.{Result, Ok, Err}
use Rattle.forms.specs.Forms.{Form, scan}
use Rattle.fields.specs.declared.Stuck.{Stuck}
use Rattle.plan_text.specs.declared.reader.Reader.{Reader}
use Rattle.plan_text.specs.Parts.{led, Takes}

module _ {A : Type 0} (whole : (List A → Form) → Form) (rest : ℕ → List A → (List A → Form) → Form) (r : Reader) (n : ℕ) where
  pub record Begun (s : Reader) (v : List A) (i : ℕ) : Type 0 where
    pub goes : (k : List A → Form) → scan (whole k) (drop r.at r.text.now) ≡ scan (rest i (take i v) k) (drop s.at r.text.now)
    pub same : s.text ≡ r.text
    pub size : length v ≡ n

  pub begun : ((k : List A → Form) → whole k ≡ rest 0 [] k) → (v : List A) → length v ≡ n → Begun r v 0
  begun e v h = record { goes = λ k. ap (λ f. scan f (drop r.at r.text.now)) (e k); same = refl; size = h }

  module _ (s : Reader) (v : List A) (i : ℕ) (g : Begun s v i) where
    pub all_read : ((l : List A) (k : List A → Form) → rest n l k ≡ k l) → i ≤ n → n ≤ i → Takes r whole s (λ (x : Unit {0}). v) (Ok (tt {0}))
    unfolding led
    all_read e q h =
        let z : i ≡ length v = omega (arith, g.size) in
        record {
          goes =
              λ k.
              g.goes k
              ∙ ap (λ j. scan (rest j (take j v) k) (drop s.at r.text.now)) z
              ∙ ap (λ l. scan (rest (length v) l k) (drop s.at r.text.now)) (take-length v)
              ∙ ap (λ j. scan (rest j v k) (drop s.at r.text.now)) g.size
              ∙ ap (λ f. scan f (drop s.at r.text.now)) (e v k);
          within = tt;
          same = g.same;
        }

    -- the part at place i, as it is read
    module _ (part : (A → Form) → Form) (e : (l : List A) (k : List A → Form) → rest i l k ≡ part (λ x. rest (i + 1) (l ++ (x ∷ [])) k)) (q : Reader)
        (a : Result A Stuck) (z : Takes s part q (λ x. x) a) where
      found : (k : List A → Form) → scan (whole k) (drop r.at r.text.now) ≡ led r.text.now q.at (λ x. rest (i + 1) (take i v ++ (x ∷ [])) k) a
      found k =
          g.goes k
          ∙ ap (λ f. scan f (drop s.at r.text.now)) (e (take i v) k)
          ∙ (rw g.same at (z.goes (λ x. rest (i + 1) (take i v ++ (x ∷ [])) k)))

      pub one_stuck : (d : Stuck) → a ≡ Err d → (look : Unit {0} → List A) → Takes r whole q look (Err d)
      unfolding led
      one_stuck d p look =
          record {
            goes = λ k. found k ∙ rw p;
            within =
                rw (← ap (λ (t : Bor (List ℕ)). length t.now) g.same)
                (IfErr-at_err (λ (d : Stuck). d.at ≤ length s.text.now) p z.within);
            same = z.same ∙ g.same;
          }

      pub one_more : i < n → (x : A) → a ≡ Ok x → Begun q (set v i x) (i + 1)
      unfolding led
      one_more h x p =
          record {
            goes = λ k. found k ∙ rw (p, add-one i, take-suc-set v i x (omega (arith, g.size)));
            same = z.same ∙ g.same;
            size = length-set v i x ∙ g.size;
          }
