-- A number of the text, digit by digit.
--   here                       == the text from a cursor that stands before its end: the byte there, and what is behind it
--   Goes .. i v                == what is read from the cursor i on, behind the digits of v, is what is to be found
--   more-next                  == what is to be found does not change while the digits go on
--   more-ends, number-ends     == the text ends
--   more_stops, more-done      == the byte is no further digit; it is the one behind the number
--   number_stops, number-goes  == the byte is no first digit; it is one
-- Assumes nothing.
use Prim.Native.Nat.{ℕ, ◌+◌, ◌-◌, ◌*◌, ◌≤◌, ◌<◌}
use mathlib.Core.Path.{◌≡◌, sym, ◌∙◌, ap}
use mathlib.Core.Bool.{true, false}
use mathlib.Core.List.{List, ◌∷◌}
use Rattle.std.specs.Prelude.{Result, Ok, Err}
use native.Mathlib.Numerals.{add-one}
use native.Mathlib.Omega.{arith}
use borrow.Author.Tests.{eq-eqb, ne_eqb}
use lib.ListN.{length, get_or, drop, drop_of_length-le}
use lib.Seq.{drop-cons, drop-length}
use Rattle.forms.specs.Forms.{begins, grows, more, number}
use Rattle.forms.proofs.Numbers.{grows_e}
use Rattle.fields.specs.declared.Got.{Got}
use Rattle.fields.specs.declared.Stuck.{Stuck}
use Rattle.fields.specs.Cursors.{piece_at, reached, Found}

-- the text from a cursor that stands before its end
pub here : (t : List ℕ) (i : ℕ) → i < length t → drop i t ≡ get_or t i 0 ∷ drop (i + 1) t
here t i h = rw (add-one i) (drop-cons t i 0 h)

module _ (t : List ℕ) (at most c n : ℕ) where
  -- what is read from the cursor i on, behind the digits of v, is what is to be found
  pub record Goes (i v : ℕ) : Type 0 where
    pub same : more most c v (drop i t) ≡ more most c n (drop at t)
    pub small : v ≤ 65535

  module _ (i v : ℕ) (g : Goes i v) where
    pub more-ends : length t ≤ i → Found t at (more most c n) (Err (record { at = length t }))
    unfolding more piece_at reached
    more-ends h =
        record {
          piece = rw (drop-length t) (sym (ap (more most c v) (drop_of_length-le t h)) ∙ g.same);
          within = omega arith;
        }

    module _ (h : i < length t) where
      pub more-done : get_or t i 0 ≡ c → Found t at (more most c n) (Ok (record { value = v; at = i + 1 }))
      unfolding more piece_at reached
      more-done e =
          record {
            piece = sym (sym g.same ∙ rw (here t i h, eq-eqb (get_or t i 0) c e));
            within = omega arith;
          }

      module _ (e : get_or t i 0 ≡ c → ⊥) where
        pub more_stops : grows most v (get_or t i 0) ≡ false → Found t at (more most c n) (Err (record { at = i }))
        unfolding more piece_at reached
        more_stops f =
            record {
              piece = sym (sym g.same ∙ rw (here t i h, ne_eqb (get_or t i 0) c e, f));
              within = omega arith;
            }

        pub more-next : most ≤ 65535 → grows most v (get_or t i 0) ≡ true → Goes (i + 1) (v * 10 + (get_or t i 0 - 48))
        unfolding more
        more-next m f =
            record {
              same = sym (sym g.same ∙ rw (here t i h, ne_eqb (get_or t i 0) c e, f));
              small = omega (arith, grows_e most v (get_or t i 0) f);
            }

module _ (t : List ℕ) (at least most c : ℕ) where
  pub number-ends : length t ≤ at → Found t at (number least most c) (Err (record { at = length t }))
  unfolding number piece_at reached
  number-ends h = record { piece = rw (drop_of_length-le t h, drop-length t); within = omega arith }

  module _ (h : at < length t) where
    pub number_stops : begins least most (get_or t at 0) ≡ false → Found t at (number least most c) (Err (record { at = at }))
    unfolding number piece_at reached
    number_stops f = record { piece = sym (rw (here t at h, f)); within = omega arith }

    -- what is read behind the first digit is what is to be found
    pub number-goes : (r : Result Got Stuck) → begins least most (get_or t at 0) ≡ true → Found t (at + 1) (more most c (get_or t at 0 - 48)) r
        → Found t at (number least most c) r
    unfolding number
    number-goes r b f = record { piece = f.piece ∙ sym (rw (here t at h, b)); within = f.within }
