-- Parentheses, by their counts in front of each place.
use Rattle.std.specs.Prelude.{◌≡◌, ℕ, ◌+◌, ◌≤◌, List, ◌++◌, count_by}
use Rattle.plus_tokens.specs.Items.{Piece}
use Rattle.plus_parser.specs.Phrases.Reading.{is_open}
use Rattle.plus_parser.specs.Phrases.Words.{is_close}

-- how many parentheses these tokens open, and how many they close
abbrev pub opened : List Piece → ℕ
opened ts = count_by (λ p. is_open p.kind) ts

abbrev pub closed : List Piece → ℕ
closed ts = count_by (λ p. is_close p.kind) ts

-- behind no token are more than so many parentheses open, and none is left open
abbrev pub IsWithin : ℕ → List Piece → Type 0
IsWithin depth ts = ((front back : List Piece) → ts ≡ front ++ back → opened front ≤ depth + closed front) × (opened ts ≡ closed ts)

-- each parenthesis has its other one: behind no token have more been closed than opened, and none is left open
abbrev pub ArePaired : List Piece → Type 0
ArePaired ts = ((front back : List Piece) → ts ≡ front ++ back → closed front ≤ opened front) × (opened ts ≡ closed ts)
