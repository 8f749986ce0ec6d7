-- Worked rows of tokens: which stands first from an offset on, and where none can be read.
use Rattle.std.specs.Prelude.{◌≡◌, ℕ, List, [], ◌∷◌, ◌++◌, Some, None, Ok, Err, codes, replicate}
use Prim.Native.String.{String}
use Rattle.plus_tokens.specs.declared.token.Op.TheVariants as ops
use Rattle.plus_tokens.specs.declared.token.Kind.{Kind}
use Rattle.plus_tokens.specs.declared.token.Kind.TheVariants as kinds
use Rattle.plus_tokens.specs.declared.token.LexFault.{LexFault}
use Rattle.plus_tokens.specs.declared.token.LexFault.TheVariants.{BadByte, TooLong}
use Rattle.plus_tokens.specs.First.{first_token}

-- the first token is of this kind, and goes from the one offset to the other
abbrev pub Finds : List ℕ → ℕ → Kind → ℕ → ℕ → Type 0
Finds text from kind start last = first_token text from ≡ Ok (Some (record { kind = kind; start = start; «end» = last }))

-- no token can be read, for this reason
abbrev pub Refused : List ℕ → ℕ → LexFault → Type 0
Refused text from fault = first_token text from ≡ Err fault

-- so it is of a whole text
abbrev pub Spells : String → Kind → ℕ → ℕ → Type 0
Spells text kind start last = Finds (codes text) 0 kind start last

-- each token, its bounds and what may stand before it
pub record TokenRows : Type 0 where
  pub opens : Spells "(" kinds.Open 0 1
  pub closes : Spells ")" kinds.Close 0 1
  pub opens_square : Spells "[" kinds.OpenSquare 0 1
  pub closes_square : Spells "]" kinds.CloseSquare 0 1
  -- blanks and comments stand before a token
  pub behind_blanks : Spells " \t\r\n(" kinds.Open 4 5
  pub behind_comment : Spells ";(\n)" kinds.Close 3 4
  pub nothing : first_token (codes "") 0 ≡ Ok None
  pub comment_alone : first_token (codes " ;)") 0 ≡ Ok None
  pub further_on : Finds (codes "(a)") 1 kinds.Name 1 2
  -- a name goes on as far as it can, in letters of both sizes
  pub name : Spells "open-Valve_2 (" kinds.Name 0 12
  pub name_with_digits : Spells "a-5" kinds.Name 0 3
  pub variable : Spells "?x-1" kinds.Variable 0 4
  pub keyword : Spells ":Domain " kinds.Keyword 0 7
  pub colon : Spells ": domain" kinds.Colon 0 1
  pub colon_before_a_digit : Spells ":5" kinds.Colon 0 1
  pub number : Spells "12" kinds.Number 0 2
  pub decimal : Spells "0.50/" kinds.Number 0 4
  pub negative : Spells "-5)" kinds.Number 0 2
  pub before_a_name_byte : Spells "7:" kinds.Number 0 1
  pub minus : Spells "- 5" (kinds.Op ops.Minus) 0 1
  pub minus_before_a_name : Spells "-x" (kinds.Op ops.Minus) 0 1
  pub plus : Spells "+5" (kinds.Op ops.Plus) 0 1
  pub times : Spells "*" (kinds.Op ops.Times) 0 1
  pub divide : Spells "/" (kinds.Op ops.Divide) 0 1
  pub less : Spells "< =" (kinds.Op ops.Less) 0 1
  pub at_most : Spells "<=" (kinds.Op ops.AtMost) 0 2
  pub equal : Spells "=>" (kinds.Op ops.Equal) 0 1
  pub at_least : Spells ">=" (kinds.Op ops.AtLeast) 0 2
  pub greater : Spells ">" (kinds.Op ops.Greater) 0 1
  pub clock : Spells "#T)" kinds.Clock 0 2
  pub last : Spells "@eNd" kinds.End 0 4

-- the byte at this offset fits no token
abbrev pub Bad : String → ℕ → Type 0
Bad text at = Refused (codes text) 0 (BadByte at)

-- the first byte that fits none
pub record ByteRows : Type 0 where
  -- the point of a number without a digit behind it, and the byte behind a number that may not stand there
  pub point_last : Bad "1." 1
  pub point_alone : Bad "1.x" 1
  pub two_points : Bad "1..2" 1
  pub second_point : Bad "1.2.3" 3
  pub no_digit_before : Bad ".5" 0
  pub letter_behind : Bad "1a" 1
  pub minus_behind : Bad "5-3" 1
  pub behind_a_negative : Bad "-5x" 2
  pub variable_behind : Bad "5?x" 1
  pub less_behind : Bad "5<6" 1
  -- a `?`, `#` or `@` that begins no token
  pub no_variable : Bad "?1" 0
  pub variable_at_the_end : Bad "?" 0
  pub no_clock : Bad "#x" 0
  pub clock_goes_on : Bad "#t1" 0
  pub no_end : Bad "@en" 0
  pub end_goes_on : Bad "@end-" 0
  -- other bytes: `_`, `"`, a form feed and one past ASCII
  pub low_line : Bad "_a" 0
  pub quote : Bad " \"a\"" 1
  pub form_feed : Refused (12 ∷ []) 0 (BadByte 0)
  pub past_ascii : Refused (40 ∷ 195 ∷ []) 1 (BadByte 1)

-- 64 letters and 65, 19 digits before the point and 20, 9 behind it and 10
pub record LongRows : Type 0 where
  pub name_of_64 : Finds (replicate 64 97) 0 kinds.Name 0 64
  pub name_of_65 : Refused (replicate 65 97) 0 (TooLong 0)
  pub variable_of_64 : Finds (63 ∷ replicate 64 97) 0 kinds.Variable 0 65
  pub variable_of_65 : Refused (63 ∷ replicate 65 97) 0 (TooLong 1)
  pub keyword_of_65 : Refused (58 ∷ replicate 65 97) 0 (TooLong 1)
  pub digits_19 : Finds (replicate 19 48) 0 kinds.Number 0 19
  pub digits_20 : Refused (replicate 20 48) 0 (TooLong 0)
  pub negative_20 : Refused (45 ∷ replicate 20 48) 0 (TooLong 0)
  pub places_9 : Finds (codes "1." ++ replicate 9 48) 0 kinds.Number 0 11
  pub places_10 : Refused (codes "1." ++ replicate 10 48) 0 (TooLong 0)
  -- where a number has both, it is too long
  pub and_point : Refused (replicate 20 48 ++ codes ".") 0 (TooLong 0)
  pub and_letter : Refused (replicate 20 48 ++ codes "a") 0 (TooLong 0)
