-- What a contract sees of a token with its bytes, and of a fault.
use Rattle.std.specs.Prelude.{ℕ, Option, Some, None}
use Rattle.plus_tokens.specs.Lowered.{lowered}
use Rattle.plus_tokens.specs.declared.token.LexFault.{LexFault}
use Rattle.plus_tokens.specs.declared.token.LexFault.TheVariants.{BadByte, TooLong}
use Rattle.plus_tokens.specs.declared.stream.Seen.{Seen}
use Rattle.plus_tokens.specs.Items.{Piece}

abbrev pub seen : Seen → Piece
seen s = record { kind = s.kind; word = lowered s.word.now; span = s.span }

abbrev pub seen_or_none : Option Seen → Option Piece
seen_or_none None = None
seen_or_none (Some s) = Some (seen s)

-- the byte that fits no token, or with which one that is too long begins
abbrev pub byte_of : LexFault → ℕ
byte_of (BadByte at) = at
byte_of (TooLong at) = at
