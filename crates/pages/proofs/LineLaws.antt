-- Laws on lines.
--   fields-rest   == a line is its first field, and the rest
--   put_first     == what is left of a line once its first field is put
-- Assumes nothing.
use Prim.Native.Nat.{ℕ}
use mathlib.Core.Path.{◌≡◌, refl, sym, ◌∙◌, ap}
use mathlib.Core.List.{List, [], ◌∷◌, ◌++◌}
use Rattle.model.specs.Texts.{fields}
use Rattle.pages.specs.declared.Page.{Page}
use Rattle.pages.specs.Pages.{put}
use Rattle.pages.proofs.Puts.{put-append}
use Rattle.pages.specs.Lines.{rest}

pub fields-rest : (x : List ℕ) (l : List (List ℕ)) → fields (x ∷ l) ≡ x ++ rest l
unfolding fields rest
fields-rest x [] = refl
fields-rest x (y ∷ l) = ap (λ m. x ++ (32 ∷ m)) (fields-rest y l)

pub put_first : (p q : Page) (x : List ℕ) (l : List (List ℕ)) → q ≡ put p x → put q (rest l) ≡ put p (fields (x ∷ l))
put_first p q x l e = ap (λ y. put y (rest l)) e ∙ put-append p x (rest l) ∙ ap (put p) (sym (fields-rest x l))
