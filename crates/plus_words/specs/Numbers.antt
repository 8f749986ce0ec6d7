-- Numbers in the words of the command line.
use Rattle.std.specs.Prelude.{ℕ, Bool, ◌&&◌, nat_le, List, length, Option, Some, None, if◌then◌else◌}
use Rattle.std.specs.Char.{is_ascii_digit}
use Rattle.std.specs.List.{list_all}
use Rattle.std.specs.Str.Parse.{digits_value}
use Rattle.plus_io.specs.Limits.{most_happenings}

-- a word of at least one and at most so many digits, zeros in front among them, with a value between these two
abbrev pub is_number : ℕ → ℕ → ℕ → List ℕ → Bool
is_number digits least most word =
    (list_all is_ascii_digit word && (nat_le 1 (length word) && nat_le (length word) digits))
    && (nat_le least (digits_value 10 word) && nat_le (digits_value 10 word) most)

-- the number that it names, if it is one
abbrev pub number_of : ℕ → ℕ → ℕ → List ℕ → Option ℕ
number_of digits least most word = if is_number digits least most word then Some (digits_value 10 word) else None

-- how many moments a plan may enter, where the words name no number
abbrev pub default_happenings : ℕ
default_happenings = 10000

-- how many moments a plan may enter: 1 to 7 digits, with a value from 1 to 1,000,000
abbrev pub happenings_of : List ℕ → Option ℕ
happenings_of word = number_of 7 1 most_happenings word

-- how many tanks a trial has: 1 to 4 digits, with a value from 1 to 1,000
abbrev pub tanks_of : List ℕ → Option ℕ
tanks_of word = number_of 4 1 1000 word

-- how many decisions a plan of a search may have: 1 or 2 digits, with a value up to 64
abbrev pub decisions_of : List ℕ → Option ℕ
decisions_of word = number_of 2 0 64 word
