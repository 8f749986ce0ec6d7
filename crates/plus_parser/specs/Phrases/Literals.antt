-- The number that a token spells: no 0 stands at the end of its places, and 0 has no sign.
use Rattle.std.specs.Prelude.{ℕ, zero, suc, ◌/◌, ◌%◌, ◌==◌, ◌&&◌, not, Bool, List, Option, Some, None, if◌then◌else◌}
use Rattle.plus_tokens.specs.declared.token.Kind.{Kind}
use Rattle.plus_tokens.specs.declared.numeral.Numeral.{Numeral}
use Rattle.plus_tokens.specs.declared.span.Span.{Span}
use Rattle.plus_tree.specs.declared.terms.Literal.{Literal}
use Rattle.plus_tokens.specs.Items.{Piece}
use Rattle.plus_tokens.specs.Numeral.{kind_numeral}

-- `digits / 10^places`; the number counts the places
abbrev pub trimmed : Bool → Span → ℕ → ℕ → Literal
trimmed negative s zero digits = record { negative = negative && not (digits == 0); digits = digits; places = 0; span = s }
trimmed negative s (suc p) digits =
    if digits % 10 == 0 then trimmed negative s p (digits / 10) else record { negative = negative; digits = digits; places = suc p; span = s }

abbrev pub numeral_literal : Option Numeral → Span → Option Literal
numeral_literal None s = None
numeral_literal (Some n) s = Some (trimmed n.negative s n.places n.digits)

-- the number of a token of this kind with this word, at this place
unfoldable pub kind_literal : Kind → List ℕ → Span → Option Literal
kind_literal kind word s = numeral_literal (kind_numeral kind word) s

-- the number that a token spells, where it spells one
abbrev pub literal_of : Piece → Option Literal
literal_of p = kind_literal p.kind p.word p.span
