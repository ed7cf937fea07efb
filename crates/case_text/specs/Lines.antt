-- What a line says by its first byte, of which an empty line has 0.
--   first l == the first byte of a line;  begins_set, builds l: the line gives a new set, or builds anything of one
use Rattle.std.specs.Prelude.{ℕ, Bool, List, ◌||◌, eqb, get_or}

abbrev pub first : List ℕ → ℕ
first l = get_or l 0 0

abbrev pub begins_set : List ℕ → Bool
begins_set l = eqb (first l) 115

abbrev pub builds : List ℕ → Bool
builds l = eqb (first l) 115 || eqb (first l) 106 || eqb (first l) 108 || eqb (first l) 104 || eqb (first l) 99
