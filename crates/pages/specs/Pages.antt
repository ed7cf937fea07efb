-- A page: what is to be printed, as an array and a length.
--   size       == how many bytes a page has room for
--   page l     == the page with the bytes l: at its start, 0 beyond them, and cut where its room ends
--   put p l    == the page p with the bytes l behind its own;  more p b: with one byte
use Rattle.std.specs.Prelude.{ℕ, ◌+◌, ◌-◌, min, cond, List, [], ◌∷◌, ◌++◌, ltb, length, take, set, replicate}
use Rattle.pages.specs.declared.Page.{Page}

unfoldable pub size : ℕ
size = 1024

unfoldable pub page : List ℕ → Page
page l = record { bytes = take size l ++ replicate (size - length l) 0; length = min size (length l) }

unfoldable pub more : Page → ℕ → Page
more p b = cond (ltb p.length size) (record { bytes = set p.bytes p.length b; length = p.length + 1 }) p

unfoldable pub put : Page → List ℕ → Page
put p [] = p
put p (b ∷ l) = put (more p b) l
