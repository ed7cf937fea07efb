-- What a line asks, by its first byte.
--   asks l: a question begins with it
use Rattle.std.specs.Prelude.{ℕ, Bool, List, ◌||◌, eqb}
use Rattle.case_text.specs.Lines.{first}

-- c, s, j, f, w, m, r, t, p, a
abbrev pub asks : List ℕ → Bool
asks l =
    (eqb (first l) 99 || eqb (first l) 115 || eqb (first l) 106 || eqb (first l) 102 || eqb (first l) 119)
    || (eqb (first l) 109 || eqb (first l) 114 || eqb (first l) 116 || eqb (first l) 112 || eqb (first l) 97)
