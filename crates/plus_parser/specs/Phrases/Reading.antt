-- What reading gives, token by token.
use Rattle.std.specs.Prelude.{◌≡◌, ℕ, Bool, true, false, ◌&&◌, List, [], ◌∷◌, ◌==◌, if◌then◌else◌, Result, Ok, Err}
use Rattle.plus_tokens.specs.declared.token.Kind.{Kind}
use Rattle.plus_tokens.specs.declared.token.Kind.TheVariants as kinds
use Rattle.plus_tree.specs.declared.faults.TextFault.{TextFault}
use Rattle.plus_tree.specs.declared.faults.TextFault.TheVariants as faults
use Rattle.plus_tokens.specs.Items.{Piece, Item, tok, bad}

infixl 10 ◌>>=◌
abbrev pub ◌>>=◌ : {A B : Type 0} → Result A TextFault → (A → Result B TextFault) → Result B TextFault
(Ok x) >>= f = f x
(Err e) >>= f = Err e

-- a value, and the tokens after it
abbrev pub Read : Type 0 → Type 0
Read A = Result (A × List Item) TextFault

-- What a reader of the code answered, seen by view, is what reading gives, unless memory ran out.
abbrev pub Fails : {Y : Type 0} → TextFault → Result Y TextFault → Type 0
Fails (faults.Lex f) read = read ≡ Err (faults.Lex f)
Fails faults.Unclosed read = read ≡ Err faults.Unclosed
Fails (faults.Depth at) read = read ≡ Err (faults.Depth at)
Fails (faults.Form s) read = read ≡ Err (faults.Form s)
Fails faults.Memory read = Unit {0}

abbrev pub Gives : {X Y : Type 0} → (X → Y) → List Item → Result X TextFault → Read Y → Type 0
Gives view rest (Ok x) read = read ≡ Ok (view x, rest)
Gives view rest (Err e) read = Fails e read

abbrev pub is_open : Kind → Bool
is_open kinds.Open = true
is_open _ = false

-- one token, where room is left for so many more parentheses
abbrev pub next_of : ℕ → List Item → Read Piece
next_of room [] = Err faults.Unclosed
next_of room (bad f ∷ rest) = Err (faults.Lex f)
next_of room (tok p ∷ rest) = if is_open p.kind && (room == 0) then Err (faults.Depth p.span.start) else Ok (p, rest)
