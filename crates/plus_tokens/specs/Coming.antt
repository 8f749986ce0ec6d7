-- What comes next among the tokens of a text.
use Rattle.std.specs.Prelude.{ℕ, Bool, true, false, not, ◌&&◌, if◌then◌else◌, List, [], ◌∷◌, Option, Some, None, Result, Ok, Err}
use Rattle.plus_tokens.specs.declared.token.Kind.{Kind}
use Rattle.plus_tokens.specs.declared.token.LexFault.{LexFault}
use Rattle.plus_tokens.specs.Ahead.{is_open}
use Rattle.plus_tokens.specs.Items.{Piece, Item, tok, bad}

-- the token that comes next, and none at the end
abbrev pub first_of : List Item → Result (Option Piece) LexFault
first_of [] = Ok None
first_of (bad f ∷ rest) = Err f
first_of (tok p ∷ rest) = Ok (Some p)

-- what is left where it is taken, if one can be read
abbrev pub rest_of : List Item → List Item
rest_of [] = []
rest_of (bad f ∷ rest) = bad f ∷ rest
rest_of (tok p ∷ rest) = rest

-- the same, where an opening parenthesis is taken only if one may be opened
abbrev pub rest_within : Bool → List Item → List Item
rest_within may_open [] = []
rest_within may_open (bad f ∷ rest) = bad f ∷ rest
rest_within may_open (tok p ∷ rest) = if is_open p.kind && not may_open then tok p ∷ rest else rest

-- a token of this kind comes next
abbrev pub comes : (Kind → Bool) → List Item → Bool
comes q [] = false
comes q (bad f ∷ rest) = false
comes q (tok p ∷ rest) = q p.kind

-- what is left where such a token is taken, if one comes next
abbrev pub without : (Kind → Bool) → List Item → List Item
without q [] = []
without q (bad f ∷ rest) = bad f ∷ rest
without q (tok p ∷ rest) = if q p.kind then rest else tok p ∷ rest

-- the bytes of the next token, in small letters
abbrev pub word_ahead : List Item → List ℕ
word_ahead [] = []
word_ahead (bad f ∷ rest) = []
word_ahead (tok p ∷ rest) = p.word

abbrev pub is_done : List Item → Bool
is_done [] = true
is_done _ = false
