-- An order after its count: the count's line, then the line of its entries.
--   count_stuck, line_stuck == the text is stuck in the count, wherever the reader stands then; in the line of the entries
--   order_read              == the entries are read, into room that holds 0
-- Assumes nothing.
use Prim.Native.Nat.{ℕ, zero, suc, ◌+◌}
use mathlib.Core.Path.{◌≡◌, refl, ap}
use mathlib.Core.List.{List, [], ◌∷◌, ◌++◌}
use lib.ListN.{length, drop, replicate}
use Rattle.std.proofs.lemmas.List.{drop-replicate}
use Rattle.std.specs.Prelude.{None, Result, Ok, Err}
use Rattle.model.specs.declared.Order.{Order}
use Rattle.forms.specs.Forms.{Form, count, row, order}
use Rattle.fields.specs.declared.Stuck.{Stuck}
use Rattle.plan_text.specs.declared.reader.Reader.{Reader}
use Rattle.plan_text.specs.Parts.{limit_at, limits_from, limits, order_with, Takes}
use Rattle.plan_text.proofs.Steps.{stuck_in, goes_on, gives}

-- no entry of an order is a level
all_free : (i n : ℕ) → limits_from None i n ≡ replicate n 65535
unfolding limits_from limit_at
all_free i zero = refl
all_free i (suc n) = ap (λ l. 65535 ∷ l) (all_free (i + 1) n)

module _ (r s : Reader) (n : ℕ) (a : Result (Unit {0}) Stuck) (z : Takes r (λ f. count n (f (tt {0}))) s (λ x. x) a) where
  entries_of : (Order → Form) → Unit {0} → Form
  entries_of f u = row (replicate n 65535) [] (λ l. f (order_with l))

  pub count_stuck : (e : Stuck) → a ≡ Err e → (q : Reader) → q.text ≡ r.text → Takes {V = Order} r (λ f. order n (λ l. f (order_with l))) q (λ o. o) (Err e)
  unfolding order entries_of
  count_stuck e p q h = stuck_in _ _ _ _ _ z e p entries_of q (λ o. o) h

  module _ (u : Unit {0}) (p : a ≡ Ok u) (m : ℕ) (w : m ≡ n) (q : Reader) (b : Result (Unit {0}) Stuck)
      (look : Unit {0} → List ℕ) (y : Takes s (row (limits None m) []) q look b) where
    line : Takes s (row (replicate n 65535) []) q look b
    unfolding limits
    line = rw (← all_free 0 n, ← w) y

    pub line_stuck : (e : Stuck) → b ≡ Err e → Takes {V = Order} r (λ f. order n (λ l. f (order_with l))) q (λ o. o) (Err e)
    unfolding order entries_of
    line_stuck e g = goes_on _ _ _ _ _ z u p entries_of q (λ o. o) _ (stuck_in _ _ _ _ _ line e g (λ f l. f (order_with l)) q (λ o. o) line.same)

    pub order_read : (x : Unit {0}) → b ≡ Ok x → length (look x) ≡ n → (room : List ℕ) → room ≡ replicate 64 0
        → Takes r (λ f. order n (λ l. f (order_with l))) q (λ o. o) (Ok (record { entries = look x ++ drop n room; count = n }))
    unfolding order entries_of order_with
    order_read x g k room o =
        goes_on _ _ _ _ _ z u p entries_of q (λ o. o) _
        (gives _ _ _ _ _ line x g order_with (λ o. o) _
        (rw (k, o, drop-replicate {X = ℕ} n 64 0)))
