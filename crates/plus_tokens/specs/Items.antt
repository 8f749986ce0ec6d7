-- A text as the list of its tokens, up to the first place where none can be read.
use Rattle.std.specs.Prelude.{ℕ, zero, suc, ◌+◌, ◌-◌, List, [], ◌∷◌, ◌<◌, ◌≤◌, length, slice_range, Option, Some, None, Result, Ok, Err}
use Rattle.plus_tokens.specs.Lowered.{lowered}
use Rattle.plus_tokens.specs.declared.token.Kind.{Kind}
use Rattle.plus_tokens.specs.declared.token.Token.{Token}
use Rattle.plus_tokens.specs.declared.token.LexFault.{LexFault}
use Rattle.plus_tokens.specs.declared.span.Span.{Span}
use Rattle.plus_tokens.specs.First.{first_token}

-- a token with its bytes in small letters
pub record Piece : Type 0 where
  pub kind : Kind
  pub word : List ℕ
  pub span : Span

-- a token, or why none can be read
pub data Item : Type 0 where
  tok : Piece → Item
  bad : LexFault → Item

abbrev pub piece_of : List ℕ → Token → Piece
piece_of text t =
    record { kind = t.kind; word = lowered (slice_range text t.start t.«end»); span = record { start = t.start; «end» = t.«end» } }

abbrev pub items_step : (ℕ → List Item) → List ℕ → Result (Option Token) LexFault → List Item
items_step more text (Ok None) = []
items_step more text (Ok (Some t)) = tok (piece_of text t) ∷ more t.«end»
items_step more text (Err f) = bad f ∷ []

-- at most so many tokens from an offset on
unfoldable pub items_from : ℕ → List ℕ → ℕ → List Item
items_from zero text from = []
items_from (suc n) text from = items_step (items_from n text) text (first_token text from)

-- the tokens from an offset on: there are no more than bytes
abbrev pub items_at : List ℕ → ℕ → List Item
items_at text from = items_from (length text + 1 - from) text from

abbrev pub items_of : List ℕ → List Item
items_of text = items_at text 0

-- where the first token at or after an offset stands
pub record Stands (text : List ℕ) (from : ℕ) (t : Token) : Type 0 where
  pub starts : from ≤ t.start
  pub some : t.start < t.«end»
  pub ends : t.«end» ≤ length text
