-- What reading a line gives, token by token.
use Rattle.std.specs.Prelude.{◌≡◌, ◌+◌, List, [], ◌∷◌, Result, Ok, Err}
use Rattle.plus_plan.specs.declared.reader.Refusal.{Refusal}
use Rattle.plus_plan.specs.declared.reader.Refusal.TheVariants as refusals
use Rattle.plus_tokens.specs.declared.span.Span.{Span}
use Rattle.plus_tokens.specs.declared.token.LexFault.{LexFault}
use Rattle.plus_tokens.specs.Items.{Piece, Item, tok, bad}
use Rattle.plus_tokens.specs.Seen.{byte_of}

-- the byte that fits no token, or with which one that is too long begins, as a place
abbrev pub byte_place : LexFault → Span
byte_place f = record { start = byte_of f; «end» = byte_of f + 1 }

infixl 10 ◌>>=◌
abbrev pub ◌>>=◌ : {A B : Type 0} → Result A Refusal → (A → Result B Refusal) → Result B Refusal
(Ok x) >>= f = f x
(Err e) >>= f = Err e

-- a value, and the tokens after it
abbrev pub Read : Type 0 → Type 0
Read A = Result (A × List Item) Refusal

-- Reading is refused so, unless memory ran out.
abbrev pub Fails : {Y : Type 0} → Refusal → Result Y Refusal → Type 0
Fails (refusals.At s) read = read ≡ Err (refusals.At s)
Fails refusals.AtEnd read = read ≡ Err refusals.AtEnd
Fails refusals.Memory read = Unit {0}

-- What a reader of the code answered, seen by view, is what reading gives, unless memory ran out.
abbrev pub Gives : {X Y : Type 0} → (X → Y) → List Item → Result X Refusal → Read Y → Type 0
Gives view rest (Ok x) read = read ≡ Ok (view x, rest)
Gives view rest (Err e) read = Fails e read

-- the next token
abbrev pub next_of : List Item → Read Piece
next_of [] = Err refusals.AtEnd
next_of (bad f ∷ rest) = Err (refusals.At (byte_place f))
next_of (tok p ∷ rest) = Ok (p, rest)
