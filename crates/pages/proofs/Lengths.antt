-- How long a number, a margin and a line are.
--   digits_most     == a number below a power of ten has no more digits than the power says
--   signed_most     == a margin takes at most 5 bytes, where the deadline has 16 bits and the worst finish 4 digits
--   fields-length   == a line, by its fields;  line_most: a line of numbers of 16 bits
--   lines_most      == lines of at most 14 bytes each
--   refused_most, job_most, head_most, miss_most   == the lines of the answers
-- Assumes nothing.
use Prim.Native.Nat.{ℕ, zero, suc, ◌+◌, ◌-◌, ◌*◌, ◌/◌, ◌%◌, ◌^◌, ◌≤◌, ◌<◌}
use mathlib.Core.Path.{◌≡◌, refl, ◌∙◌, ap}
use mathlib.Core.Bool.{true}
use mathlib.Core.List.{List, [], ◌∷◌, map, flat_map}
use native.Mathlib.Omega.{arith}
use native.Mathlib.Nat.{pow-suc}
use lib.Dec.{ltb}
use lib.IntN.{pos, ◌-ℤ◌}
use lib.ListN.{length, length-append}
use Rattle.model.specs.declared.Refusal.{Refusal}
use Rattle.model.specs.declared.Miss.{Miss}
use Rattle.model.specs.Lists.{mem}
use Rattle.model.specs.Texts.{digit, decimal, fields, line}
use Rattle.model.specs.Printed.{fit_word, unfit_word, refused_word, signed, scenario_number, refused_text}
use Rattle.laws.proofs.Bools.{tests, split}
use Rattle.laws.proofs.Lists.{mem_head, mem_tail}
use Rattle.forms.proofs.Decimals.{decimal_digit, decimal_of}
use Rattle.pages.proofs.Numerals.{signed_minus}
use Rattle.pages.specs.Lines.{rest, job_line, miss_line}
use Rattle.pages.proofs.LineLaws.{fields-rest}

one_digit : (n : ℕ) → n < 10 → length (decimal n) ≡ 1
one_digit n h = ap length (decimal_digit n h)

more_digits : (n : ℕ) → 10 ≤ n → length (decimal n) ≡ length (decimal (n / 10)) + 1
more_digits n h = ap length (decimal_of n h) ∙ length-append (decimal (n / 10)) (digit (n % 10) ∷ [])

pub digits_most : (k n : ℕ) → n < 10 ^ suc k → length (decimal n) ≤ suc k
digits_most zero n h = omega (arith, one_digit n (omega arith))
digits_most (suc k) n h =
    split (ltb n 10)
    (λ p. omega (tests, p, one_digit n (omega (tests, p))))
    (λ p. omega (tests, p, more_digits n (omega (tests, p)), digits_most k (n / 10) (omega (arith, h, pow-suc 10 (suc k)))))

pub signed_most : (d w : ℕ) → d ≤ 65535 → w < 10000 → length (signed (pos d -ℤ pos w)) ≤ 5
signed_most d w p q =
    split (ltb d w)
    (λ h.
    let e : signed (pos d -ℤ pos w) ≡ 45 ∷ decimal (w - d) = rw h at (signed_minus d w) in
    omega (arith, ap length e, digits_most 3 (w - d) (omega arith)))
    (λ h.
    let e : signed (pos d -ℤ pos w) ≡ decimal (d - w) = rw h at (signed_minus d w) in
    omega (arith, ap length e, digits_most 4 (d - w) (omega arith)))

rest-length : (x : List ℕ) (l : List (List ℕ)) → length (rest (x ∷ l)) ≡ 1 + length x + length (rest l)
unfolding rest
rest-length x l = omega (arith, length-append (32 ∷ x) (rest l))

rest_end : length (rest []) ≡ 1
unfolding rest
rest_end = refl

pub fields-length : (x : List ℕ) (l : List (List ℕ)) → length (fields (x ∷ l)) ≡ length x + length (rest l)
fields-length x l = ap length (fields-rest x l) ∙ length-append x (rest l)

rest_most : (f : ℕ → ℕ) (l : List ℕ) → ((j : ℕ) → f j ≤ 65535) → length (rest (map decimal (map f l))) ≤ 6 * length l + 1
rest_most f [] h = omega (arith, rest_end)
rest_most f (x ∷ l) h =
    let e = h x in omega (arith, rest-length (decimal (f x)) (map decimal (map f l)), digits_most 4 (f x) (omega arith), rest_most f l h)

pub line_most : (f : ℕ → ℕ) (l : List ℕ) → ((j : ℕ) → f j ≤ 65535) → length (line (map f l)) ≤ 6 * length l + 1
unfolding line fields
line_most f [] h = omega arith
line_most f (x ∷ l) h =
    let e = h x in omega (arith, fields-length (decimal (f x)) (map decimal (map f l)), digits_most 4 (f x) (omega arith), rest_most f l h)

pub lines_most : (f : ℕ → List ℕ) (l : List ℕ) → ((j : ℕ) → mem j l ≡ true → length (f j) ≤ 14) → length (flat_map f l) ≤ 14 * length l
unfolding flat_map
lines_most f [] h = omega arith
lines_most f (x ∷ l) h =
    omega (arith, length-append (f x) (flat_map f l), h x (mem_head x l), lines_most f l (λ j m. h j (mem_tail j x l m)))

pub refused_most : (r : Refusal) → r.number < 1000 → r.place < 10 ^ 20 → length (refused_text r) ≤ 33
unfolding refused_text refused_word
refused_most r p q =
    let n = decimal r.number in
    let m = decimal r.place in
    omega (
      arith,
      fields-length refused_word (n ∷ m ∷ []),
      rest-length n (m ∷ []),
      rest-length m [],
      rest_end,
      digits_most 2 r.number p,
      digits_most 19 r.place q,
    )

pub job_most : (j w d : ℕ) → j ≤ 64 → w < 10000 → d ≤ 65535 → length (job_line j w d) ≤ 14
unfolding job_line
job_most j w d p q h =
    let m = signed (pos d -ℤ pos w) in
    omega (
      arith,
      fields-length (decimal j) (decimal w ∷ m ∷ []),
      rest-length (decimal w) (m ∷ []),
      rest-length m [],
      rest_end,
      digits_most 1 j (omega arith),
      digits_most 3 w q,
      signed_most d w h q,
    )

pub head_most : (n : ℕ) → n < 10000 → length (fields (fit_word ∷ decimal n ∷ [])) ≤ 9
unfolding fit_word
head_most n h = omega (arith, fields-length fit_word (decimal n ∷ []), rest-length (decimal n) [], rest_end, digits_most 3 n h)

pub miss_most : (m : Miss) → scenario_number m.scenario ≤ 64 → m.job ≤ 64 → m.finish < 10000 → length (miss_line m) ≤ 17
unfolding miss_line unfit_word fit_word
miss_most m p q h =
    let x = decimal (scenario_number m.scenario) in
    let y = decimal m.job in
    let z = decimal m.finish in
    omega (
      arith,
      fields-length unfit_word (x ∷ y ∷ z ∷ []),
      rest-length x (y ∷ z ∷ []),
      rest-length y (z ∷ []),
      rest-length z [],
      rest_end,
      digits_most 1 (scenario_number m.scenario) (omega arith),
      digits_most 1 m.job (omega arith),
      digits_most 3 m.finish h,
    )
