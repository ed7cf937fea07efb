-- An answer of the reader.
--   answer n p s  == refusal n with the place p, and the set s
--   refused_at p  == refusal 1 with the place p: "a set read .. come[s] back all 0"
use Rattle.std.specs.Prelude.{ℕ}
use Rattle.model.specs.declared.Reading.{Reading}
use Rattle.model.specs.declared.Set.{Set}
use Rattle.model.specs.Texts.{no_set}

unfoldable pub answer : ℕ → ℕ → Set → Reading
answer n p s = record { refusal = record { number = n; place = p }; set = s }

unfoldable pub refused_at : ℕ → Reading
refused_at p = answer 1 p no_set
