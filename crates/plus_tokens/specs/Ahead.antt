-- What comes next, where it is of one kind.
use Rattle.std.specs.Prelude.{ℕ, Bool, true, false, if◌then◌else◌, Option, Some, None, Result, Ok, Err}
use Rattle.plus_tokens.specs.declared.token.Kind.{Kind}
use Rattle.plus_tokens.specs.declared.token.Kind.TheVariants as kinds
use Rattle.plus_tokens.specs.declared.token.Token.{Token}
use Rattle.plus_tokens.specs.declared.token.LexFault.{LexFault}

abbrev pub is_name : Kind → Bool
is_name kinds.Name = true
is_name _ = false

abbrev pub is_open : Kind → Bool
is_open kinds.Open = true
is_open _ = false

abbrev pub is_close : Kind → Bool
is_close kinds.Close = true
is_close _ = false

abbrev pub is_colon : Kind → Bool
is_colon kinds.Colon = true
is_colon _ = false

-- where a token that was looked for begins and ends, if there is one of this kind
abbrev pub place_if : (Kind → Bool) → Result (Option Token) LexFault → Option (ℕ × ℕ)
place_if q (Ok (Some t)) = if q t.kind then Some (t.start, t.«end») else None
place_if q (Ok None) = None
place_if q (Err e) = None

-- where it ends
abbrev pub end_if : (Kind → Bool) → Result (Option Token) LexFault → Option ℕ
end_if q (Ok (Some t)) = if q t.kind then Some t.«end» else None
end_if q (Ok None) = None
end_if q (Err e) = None

-- there is no token
abbrev pub finds_none : Result (Option Token) LexFault → Bool
finds_none (Ok None) = true
finds_none _ = false
