-- Laws on pages.
--   put-append     == two texts are put one after the other
--   put-page       == what is put on a page stands behind what it holds
--   put-turn       == one turn of a loop over the bytes of a text;  put-end: its end
--   page-length    == a page's length is within its room
--   page-whole     == a page holds the whole of a text that has room on it
-- Assumes nothing.
use Prim.Native.Nat.{ℕ, suc, ◌+◌, ◌-◌, ◌≤◌, ◌<◌, min}
use mathlib.Core.Path.{◌≡◌, refl, sym, ◌∙◌, ap, subst}
use mathlib.Core.List.{List, [], ◌∷◌, ◌++◌, append_assoc, append-nil}
use native.Mathlib.Omega.{arith}
use native.Mathlib.Numerals.{add-one}
use lib.Dec.{ltb}
use lib.ListN.{length, take, drop, set, get_or, replicate, length-append, length-take, drop_of_length-le}
use lib.Seq.{take_all, take-append_seam, take-append-le, set_at, drop-cons}
use Rattle.laws.proofs.Bools.{tests, split}
use Rattle.pages.specs.declared.Page.{Page}
use Rattle.pages.specs.Pages.{size, page, more, put}

pub put-append : (p : Page) (a b : List ℕ) → put (put p a) b ≡ put p (a ++ b)
unfolding put
put-append p [] b = refl
put-append p (x ∷ a) b = put-append (more p x) a b

-- one byte more, where there is room and where there is none
module _ (k : ℕ) (l : List ℕ) (b : ℕ) where
  longer : length (l ++ (b ∷ [])) ≡ length l + 1
  longer = length-append l (b ∷ [])

  in_room : length l < k
      → set (take k l ++ replicate (k - length l) 0) (min k (length l)) b ≡ take k (l ++ (b ∷ [])) ++ replicate (k - length (l ++ (b ∷ []))) 0
  in_room h =
      let e : k - length l ≡ suc (k - (length l + 1)) = omega arith in
      let f : length l ≤ k = omega arith in
      let g : length (l ++ (b ∷ [])) ≤ k = omega (arith, longer) in
      let m : length l ≡ min k (length l) = omega arith in
      rw (take_all k l f, take_all k (l ++ (b ∷ [])) g, longer, e)
      (set_at l 0 (replicate (k - (length l + 1)) 0) b (min k (length l)) m ∙ sym (append_assoc l (b ∷ []) (replicate (k - (length l + 1)) 0)))

  no_room : k ≤ length l → take k l ++ replicate (k - length l) 0 ≡ take k (l ++ (b ∷ [])) ++ replicate (k - length (l ++ (b ∷ []))) 0
  no_room h =
      let e : k - length l ≡ 0 = omega arith in
      let f : k - (length l + 1) ≡ 0 = omega arith in
      rw (take-append-le k l (b ∷ []) h, longer, e, f)

alike : (a b : List ℕ) (m n : ℕ) → a ≡ b → m ≡ n → ◌≡◌ {A = Page} (record { bytes = a; length = m }) (record { bytes = b; length = n })
alike a b m n p q = cc

page-more : (l : List ℕ) (b : ℕ) → more (page l) b ≡ page (l ++ (b ∷ []))
unfolding more page
page-more l b =
    split (ltb (min size (length l)) size)
    (λ h. rw h (alike _ _ _ _ (in_room size l b (omega (tests, h))) (omega (tests, h, longer size l b))))
    (λ h. rw h (alike _ _ _ _ (no_room size l b (omega (tests, h))) (omega (tests, h, longer size l b))))

pub put-page : (a b : List ℕ) → put (page a) b ≡ page (a ++ b)
unfolding put
put-page a [] = ap page (sym (append-nil a))
put-page a (x ∷ b) = rw (page-more a x) (put-page (a ++ (x ∷ [])) b ∙ ap page (append_assoc a (x ∷ []) b))

-- a loop over the bytes of a text: r is q with the byte at place i
pub put-turn : (p q r : Page) (t : List ℕ) (i : ℕ) → put q (drop i t) ≡ put p t → i < length t → r ≡ put q (get_or t i 0 ∷ [])
    → put r (drop (i + 1) t) ≡ put p t
put-turn p q r t i h n e =
    ap (λ x. put x (drop (i + 1) t)) e
    ∙ put-append q (get_or t i 0 ∷ []) (drop (i + 1) t)
    ∙ ap (put q) (rw (add-one i) (sym (drop-cons t i 0 n)))
    ∙ h

pub put-end : (p q : Page) (t : List ℕ) (i : ℕ) → put q (drop i t) ≡ put p t → length t ≤ i → q ≡ put p t
unfolding put
put-end p q t i h n = rw (drop_of_length-le t {i = i} n) at h

pub page-length : (p : Page) (l : List ℕ) → p ≡ page l → p.length ≤ length p.bytes
unfolding page
page-length p l e = subst (λ x. x.length ≤ length x.bytes) (sym e) (within size l)
  where
    within : (k : ℕ) (l : List ℕ) → min k (length l) ≤ length (take k l ++ replicate (k - length l) 0)
    within k l = omega (arith, length-append (take k l) (replicate (k - length l) 0), length-take k l)

pub page-whole : (l : List ℕ) → length l ≤ 1024 → take (page l).length (page l).bytes ≡ l
unfolding page size
page-whole l h = start 1024 l h
  where
    start : (k : ℕ) (l : List ℕ) → length l ≤ k → take (min k (length l)) (take k l ++ replicate (k - length l) 0) ≡ l
    start k l h =
        let e : min k (length l) ≡ length l = omega arith in
        rw (e, take_all k l h) (take-append_seam l (replicate (k - length l) 0))
