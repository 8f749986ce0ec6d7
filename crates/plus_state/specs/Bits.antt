-- Truth values kept as bits, sixty-four to a word.
use Rattle.std.specs.Prelude.{ℕ, ◌/◌, ◌%◌, Bool, List, map, nat_eq, slice_index_or}
use Rattle.std.specs.Int.{bit_at}
use Rattle.std.specs.List.{range_with_len}

-- bit k of a word is one
abbrev pub bit_of : ℕ → ℕ → Bool
bit_of word k = nat_eq (bit_at word k) 1

-- the truth value of number i
abbrev pub bit_in : List ℕ → ℕ → Bool
bit_in words i = bit_of (slice_index_or words (i / 64) 0) (i % 64)

-- so many truth values
unfoldable pub bits_of : ℕ → List ℕ → List Bool
bits_of count words = map (bit_in words) (range_with_len 0 count)
