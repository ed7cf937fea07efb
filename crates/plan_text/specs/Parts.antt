-- What a reader reads of the parts of a text, from where it stands.
--   limits level n             == the largest numbers of a line of n numbers whose level stands at place `level`, if it has one;  limit_at: at place i
--   behind_at n i              == the byte behind the number at place i of a line of n
--   order_with l               == the order of the entries l, and 0 in its room
--   led t p f a                == the scan of what is left of the text t behind a part, from the place p on, by the form that f makes of what was read; or where it is stuck
--   Takes r part s seen a      == from where the reader r stands, a is what the scan of `part` reads, whatever form follows it, and s stands behind it;
--                                 `seen` says what is read, of what the answer holds
--   Ends r a                   == a tells whether the reader r stands at the text's end
--   scanned t a, PlanRead t a  == what the scan of a plan text gives, told as an answer; a tells what it gives for the text t
use Rattle.std.specs.Prelude.{ℕ, suc, zero, ◌+◌, ◌-◌, ◌<◌, ◌≤◌, ◌≡◌, cond, List, ◌∷◌, [], ◌++◌, eqb, ltb, length, drop, replicate, Option, Some, None, Result, Ok, Err, IfErr, MatchResult}
use Rattle.model.specs.declared.Order.{Order}
use Rattle.model.specs.declared.Set.{Set}
use Rattle.forms.specs.Forms.{Form, Scanned, scan, plan, space, lf}
use Rattle.forms.specs.Forms.Scanned.{read, stuck}
use Rattle.fields.specs.declared.Stuck.{Stuck}
use Rattle.plan_text.specs.declared.reader.Reader.{Reader}

unfoldable pub limit_at : Option ℕ → ℕ → ℕ
limit_at None i = 65535
limit_at (Some level) i = cond (eqb level i) 1 65535

-- those of n places from place i on
unfoldable pub limits_from : Option ℕ → ℕ → ℕ → List ℕ
limits_from level i zero = []
limits_from level i (suc n) = limit_at level i ∷ limits_from level (i + 1) n

unfoldable pub limits : Option ℕ → ℕ → List ℕ
limits level n = limits_from level 0 n

unfoldable pub behind_at : ℕ → ℕ → ℕ
behind_at n i = cond (ltb (i + 1) n) space lf

-- "Room beyond a count is no part of the set: .. the reader leaves 0 there (level LO)."
unfoldable pub order_with : List ℕ → Order
order_with l = record { entries = l ++ replicate (64 - length l) 0; count = length l }

unfoldable pub led : {A : Type 0} → List ℕ → ℕ → (A → Form) → Result A Stuck → Scanned
led t p f (Ok x) = scan (f x) (drop p t)
led t p f (Err e) = stuck (drop e.at t)

pub record Takes {A V : Type 0} (r : Reader) (part : (A → Form) → Form) (s : Reader) (seen : V → A) (a : Result V Stuck) : Type 0 where
  pub goes : (f : A → Form) → scan (part f) (drop r.at r.text.now) ≡ led r.text.now s.at (λ v. f (seen v)) a
  pub within : IfErr a (λ e. e.at ≤ length r.text.now)
  pub same : s.text ≡ r.text

abbrev pub Ends : Reader → Result (Unit {0}) Stuck → Type 0
Ends r a = MatchResult a (λ _. length r.text.now ≤ r.at) (λ e. (e.at ≡ r.at) × (r.at < length r.text.now))

unfoldable pub scanned : List ℕ → Result Set Stuck → Scanned
scanned t (Ok s) = read s
scanned t (Err e) = stuck (drop e.at t)

pub record PlanRead (t : List ℕ) (a : Result Set Stuck) : Type 0 where
  pub goes : scan plan t ≡ scanned t a
  pub within : IfErr a (λ e. e.at ≤ length t)
