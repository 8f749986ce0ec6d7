-- The interval that a word names: a number with digits alone, perhaps with a point, or one whole number over another. Its
-- value is above 0 and one of `Frac64`.
use Rattle.std.specs.Prelude.{ℕ, ◌+◌, ◌*◌, ◌^◌, Bool, ◌&&◌, ◌==◌, nat_lt, nat_le, List, length, Option, Some, None, option_map, option_and_then, pos, unsigned_abs, if◌then◌else◌}
use Rattle.std.specs.Char.{is_ascii_digit}
use Rattle.std.specs.List.{list_all, position_or_len, before_first, after_first}
use Rattle.std.specs.Ordering.{is_lt}
use Rattle.std.specs.Str.Parse.{digits_value}
use Rattle.plus_fraction.specs.Fraction.{Fraction, whole, over, compared}

-- the number of these digits, of which there is at least one and are at most so many
abbrev pub digits_in : ℕ → List ℕ → Option ℕ
digits_in most ds =
    if list_all is_ascii_digit ds && (nat_lt 0 (length ds) && nat_le (length ds) most) then Some (digits_value 10 ds) else None

-- what stands before the first such byte, and what behind it
abbrev pub split_at : ℕ → List ℕ → Option (List ℕ × List ℕ)
split_at c word =
    if nat_lt (position_or_len (λ b. b == c) word) (length word)
    then Some (before_first (λ b. b == c) word, after_first (λ b. b == c) word)
    else None

-- a number with a point: up to 19 digits before it, and up to 9 behind
abbrev pub decimal : List ℕ → List ℕ → Option (ℕ × ℕ)
decimal front back =
    option_and_then (λ units. option_map (λ rest. (units * 10 ^ length back + rest, 10 ^ length back)) (digits_in 9 back))
    (digits_in 19 front)

abbrev pub quotient : List ℕ → List ℕ → Option (ℕ × ℕ)
quotient top bottom = option_and_then (λ t. option_map (λ b. (t, b)) (digits_in 19 bottom)) (digits_in 19 top)

abbrev pub number_by : List ℕ → Option (List ℕ × List ℕ) → Option (ℕ × ℕ)
number_by word None = option_map (λ n. (n, 1)) (digits_in 19 word)
number_by word (Some p) = decimal p.0 p.1

-- `.` has the code 46
abbrev pub number : List ℕ → Option (ℕ × ℕ)
number word = number_by word (split_at 46 word)

abbrev pub parts_by : List ℕ → Option (List ℕ × List ℕ) → Option (ℕ × ℕ)
parts_by word None = number word
parts_by word (Some p) = quotient p.0 p.1

-- the two parts of the fraction that a word spells; `/` has the code 47
abbrev pub parts_in : List ℕ → Option (ℕ × ℕ)
parts_in word = parts_by word (split_at 47 word)

-- a divisor is not 0, the fraction is a value of `Frac64`, and it is above 0
abbrev pub is_interval : ℕ → ℕ → Bool
is_interval top bottom =
    nat_lt 0 bottom
    && ((nat_le (unsigned_abs (over (pos top) bottom).top) 9223372036854775807 && nat_le (over (pos top) bottom).bottom 9223372036854775807)
    && is_lt (compared (whole (pos 0)) (over (pos top) bottom)))

abbrev pub interval_by : ℕ × ℕ → Option Fraction
interval_by p = if is_interval p.0 p.1 then Some (over (pos p.0) p.1) else None

-- the interval that a word names, if it names one
abbrev pub interval_of : List ℕ → Option Fraction
interval_of word = option_and_then interval_by (parts_in word)
