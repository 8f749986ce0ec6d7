-- Tokens without meaning, in which each parenthesis has its other one.
use Rattle.std.specs.Prelude.{◌≡◌, ℕ, zero, suc, ◌+◌, ◌-◌, List, [], ◌∷◌, length, Option, Some, None, Ok, Err}
use Rattle.plus_tokens.specs.declared.token.Kind.{Kind}
use Rattle.plus_tokens.specs.declared.token.Kind.TheVariants as kinds
use Rattle.plus_tokens.specs.declared.span.Span.{Span}
use Rattle.plus_tree.specs.declared.faults.TextFault.TheVariants as faults
use Rattle.plus_tokens.specs.Items.{Piece, Item}
use Rattle.plus_parser.specs.Phrases.Reading.{◌>>=◌, Read, next_of}

-- ---- the relation

abbrev pub open_step : Kind → ℕ → (ℕ → Option ℕ) → Option ℕ
open_step kinds.Open n after = after (suc n)
open_step kinds.Close zero after = None
open_step kinds.Close (suc n) after = after n
open_step _ n after = after n

-- how many parentheses are open after these tokens, where so many are before them; none where one closes that is not open
abbrev pub open_after : ℕ → List Piece → Option ℕ
open_after n [] = Some n
open_after n (p ∷ ps) = open_step p.kind n (λ m. open_after m ps)

-- each parenthesis has its other one
abbrev pub IsBalanced : List Piece → Type 0
IsBalanced ts = open_after 0 ts ≡ Some 0

-- ---- reading

-- reads on, with room for so many more parentheses and so many open
abbrev pub Skipper : Type 0
Skipper = ℕ → ℕ → List Item → Read Span

abbrev pub skip_with : Kind → Skipper → ℕ → ℕ → Span → List Item → Read Span
skip_with kinds.Open more room n s rest = more (room - 1) (suc n) rest
skip_with kinds.Close more room zero s rest = Ok (s, rest)
skip_with kinds.Close more room (suc n) s rest = more (room + 1) n rest
skip_with _ more room n s rest = more room n rest

-- Up to the closing parenthesis of what is open already. The first number bounds the turns; the count of the tokens is
-- always enough.
unfoldable pub skip : ℕ → Skipper
skip zero room n items = Err faults.Unclosed
skip (suc turns) room n items = do
  p ← next_of room items
  skip_with p.0.kind (skip turns) room n p.0.span p.1

-- the tokens up to the closing parenthesis, and its place
abbrev pub skipped : ℕ → List Item → Read Span
skipped room items = skip (length items) room 0 items
