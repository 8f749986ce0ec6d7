-- The number that a word spells.
use Rattle.std.specs.Prelude.{ℕ, Bool, true, false, ◌&&◌, ◌==◌, nat_lt, nat_le, if◌then◌else◌, List, [], ◌∷◌, ◌++◌, length, take, drop, Option, Some, None}
use Rattle.std.specs.List.{prefix_len, list_all}
use Rattle.plus_tokens.specs.declared.token.Kind.{Kind}
use Rattle.plus_tokens.specs.declared.token.Kind.TheVariants as kinds
use Rattle.plus_tokens.specs.declared.numeral.Numeral.{Numeral}
use Rattle.plus_tokens.specs.Bytes.{is_digit, decimal}
use Rattle.plus_tokens.specs.Items.{Piece}

abbrev pub numeral : Bool → ℕ → ℕ → Numeral
numeral negative digits places = record { negative = negative; digits = digits; places = places }

-- these digits before the point and behind it, where they are as many as a number may have
abbrev pub numeral_with : Bool → List ℕ → List ℕ → Option Numeral
numeral_with negative whole fraction =
    if (nat_lt 0 (length whole) && nat_le (length whole) 19) && nat_le (length fraction) 9
    then Some (numeral negative (decimal 0 (whole ++ fraction)) (length fraction)) else None

-- digits, and what stands behind them: nothing, or a point and digits
abbrev pub numeral_behind : Bool → List ℕ → List ℕ → Option Numeral
numeral_behind negative whole [] = numeral_with negative whole []
numeral_behind negative whole (b ∷ fraction) =
    if ((b == 46) && nat_lt 0 (length fraction)) && list_all is_digit fraction then numeral_with negative whole fraction else None

-- a number behind its sign
abbrev pub unsigned : Bool → List ℕ → Option Numeral
unsigned negative bytes =
    numeral_behind negative (take (prefix_len is_digit bytes) bytes) (drop (prefix_len is_digit bytes) bytes)

-- the number that the bytes spell, where they spell one
unfoldable pub numeral_of : List ℕ → Option Numeral
numeral_of [] = None
numeral_of (b ∷ bs) = if b == 45 then unsigned true bs else unsigned false (b ∷ bs)

abbrev pub kind_numeral : Kind → List ℕ → Option Numeral
kind_numeral kinds.Number word = numeral_of word
kind_numeral _ word = None

-- the number that a token spells, where it spells one
abbrev pub piece_numeral : Piece → Option Numeral
piece_numeral p = kind_numeral p.kind p.word
