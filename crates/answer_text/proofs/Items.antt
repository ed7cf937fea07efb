-- What a list writes, item by item.
use Rattle.std.proofs.Common.{ℕ, ◌≡◌, refl, sym, ap, ◌∙◌, List, [], ◌∷◌, ◌++◌, append_assoc, append-nil, Option, None, Some, Ok, IfSome}
use Rattle.std.proofs.lemmas.Grind.{put_two}
use Rattle.std.specs.Fmt.{◌++?◌, HasWritten, DisplaysOnOk}
use Rattle.std.specs.declared.fmt.Formatter.{Formatter}
use Rattle.answer_text.specs.Words.{list_words}

then_assoc : (a b c : Option (List ℕ)) → (a ++? b) ++? c ≡ a ++? (b ++? c)
then_assoc None b c = refl
then_assoc (Some a) None c = refl
then_assoc (Some a) (Some b) None = refl
then_assoc (Some a) (Some b) (Some c) = ap Some (append_assoc a b c)

nothing_then : (a : Option (List ℕ)) → Some [] ++? a ≡ a
nothing_then None = refl
nothing_then (Some a) = refl

then_nothing : (a : Option (List ℕ)) → a ++? Some [] ≡ a
then_nothing None = refl
then_nothing (Some a) = ap Some (append-nil a)

-- one item more
pub list_words_more : {A : Type 0} (text : A → Option (List ℕ)) (xs : List A) (x : A) → list_words text (xs ++ x ∷ []) ≡ list_words text xs ++? (Some (32 ∷ []) ++? text x)
list_words_more text [] x = ap (λ t. Some (32 ∷ []) ++? t) (then_nothing (text x)) ∙ sym (nothing_then _)
list_words_more text (y ∷ ys) x =
    ap (λ t. Some (32 ∷ []) ++? (text y ++? t)) (list_words_more text ys x)
    ∙ ap (λ t. Some (32 ∷ []) ++? t) (sym (then_assoc (text y) (list_words text ys) _))
    ∙ sym (then_assoc (Some (32 ∷ [])) (text y ++? list_words text ys) _)

-- a write behind what was written
pub written_then : {W : Type 0} (took : W → List ℕ → W → Type 0) (f g h : Formatter W) (o p : Option (List ℕ)) → IfSome o (λ a. HasWritten took f a g)
    → DisplaysOnOk took g (Ok tt) p h → IfSome (o ++? p) (λ a. HasWritten took f a h)
written_then took f g h None p u v = tt
written_then took f g h (Some a) None u v = tt
written_then took f g h (Some a) (Some b) u v = put_two took f g h a b (a ++ b) u (v u.plain refl) refl
