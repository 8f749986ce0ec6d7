-- Digits of which `parse` makes no number.
use Rattle.std.proofs.Common.{◌≡◌, ℕ, ◌<◌, ◌≤◌, ◌^◌, List, [], ◌∷◌, length, None, true, Result, Err, refl, arith, rules}
use Rattle.std.proofs.lemmas.Str.Parse.{IsNumeralModel, numerals_by_value, parse_digits, digits_value_short}
use Rattle.std.specs.Char.{is_ascii_digit}
use Rattle.std.specs.List.{list_all}
use Rattle.std.specs.Str.Parse.{IsNumeral, digits_value, without_leading_plus}
use Rattle.plus_words.specs.Interval.{digits_in}

own : IsNumeralModel (λ ds. list_all is_ascii_digit ds ≡ true) (digits_value 10)
own = numerals_by_value _ (search rules)

-- only a word without a digit is none, where it has 19 at most
pub no_number :
    (most : ℕ) (word : List ℕ) → most ≤ 19 → list_all is_ascii_digit word ≡ true → length word ≤ most
    → (IsNumeral 10 (without_leading_plus word) × (digits_value 10 (without_leading_plus word) < 18446744073709551616) → ⊥)
    → None ≡ digits_in most word
no_number most [] m d l h = refl
no_number most (c ∷ cs) m d l h =
    let r : Result ℕ ℕ = Err 0 in
    let within : length (c ∷ cs) ≤ 19 = omega arith in
    let small : digits_value 10 (c ∷ cs) < 10 ^ 19 = digits_value_short own (c ∷ cs) 19 d within in
    absurd (parse_digits own 64 (c ∷ cs) r h d (omega arith, omega arith))
