-- How tokens are spelled, by the table of the language. Nothing here reads a text from its front.
use Rattle.std.specs.Prelude.{◌≡◌, ◌⊎◌, ℕ, ◌+◌, ◌≤◌, Bool, true, false, not, List, [], ◌∷◌, ◌++◌, ◌==◌, length, drop}
use Rattle.std.specs.List.{list_all, concat}
use Rattle.plus_tokens.specs.declared.token.Op.{Op}
use Rattle.plus_tokens.specs.declared.token.Op.TheVariants.{Plus, Minus, Times, Divide, Less, AtMost, Equal, AtLeast, Greater}
use Rattle.plus_tokens.specs.declared.token.Kind.{Kind}
use Rattle.plus_tokens.specs.declared.token.Kind.TheVariants as kinds
use Rattle.plus_tokens.specs.declared.token.Kind.TheVariants.{Open, Close, OpenSquare, CloseSquare, Colon, Name, Variable, Keyword, Number, Clock, End}
use Rattle.plus_tokens.specs.declared.token.Token.{Token}
use Rattle.plus_tokens.specs.Bytes.{is_blank, is_letter, is_digit, is_name_byte, ends_number, decimal}
use Rattle.plus_tokens.specs.First.{is_letter_of}

-- each byte passes
abbrev pub Each : (ℕ → Bool) → List ℕ → Type 0
Each p bytes = list_all p bytes ≡ true

-- the bytes begin with one that passes
abbrev pub begins : (ℕ → Bool) → List ℕ → Bool
begins p [] = false
begins p (b ∷ bs) = p b

abbrev pub is_no_lf : ℕ → Bool
is_no_lf b = not (b == 10)

-- a blank: a space, a tab, a CR or a LF
abbrev pub IsBlank : List ℕ → Type 0
IsBlank piece = (b : ℕ) × (is_blank b ≡ true) × (piece ≡ b ∷ [])

-- a comment: `;`, any bytes but LF, and the LF behind them
abbrev pub IsComment : List ℕ → Type 0
IsComment piece = (inside : List ℕ) × Each is_no_lf inside × (piece ≡ 59 ∷ (inside ++ 10 ∷ []))

abbrev pub AreSpaces : List (List ℕ) → Type 0
AreSpaces [] = Unit {0}
AreSpaces (piece ∷ pieces) = (IsBlank piece ⊎ IsComment piece) × AreSpaces pieces

-- a gap: blanks and comments, in any order, or nothing
abbrev pub IsGap : List ℕ → Type 0
IsGap gap = (pieces : List (List ℕ)) × AreSpaces pieces × (gap ≡ concat pieces)

-- a gap up to the end of the text, which may cut its last comment off
abbrev pub IsGapToEnd : List ℕ → Type 0
IsGapToEnd text = IsGap text ⊎ ((gap inside : List ℕ) × IsGap gap × Each is_no_lf inside × (text ≡ gap ++ 59 ∷ inside))

-- a name: a letter, then letters, digits, `-` and `_`
pub record IsName (bytes : List ℕ) : Type 0 where
  pub first : ℕ
  pub others : List ℕ
  pub letter : is_letter first ≡ true
  pub name_bytes : Each is_name_byte others
  pub spelled : bytes ≡ first ∷ others
  pub within : length bytes ≤ 64

abbrev pub sign_of : Bool → List ℕ
sign_of false = []
sign_of true = 45 ∷ []

-- the point and the digits behind it, or nothing where there are none
abbrev pub point_and : List ℕ → List ℕ
point_and [] = []
point_and (d ∷ ds) = 46 ∷ d ∷ ds

-- a number: perhaps `-`, digits, and perhaps a point and digits
pub record IsNumber (negative : Bool) (digits places : ℕ) (bytes : List ℕ) : Type 0 where
  pub first : ℕ
  pub others : List ℕ
  pub fraction : List ℕ
  pub whole_digits : Each is_digit (first ∷ others)
  pub fraction_digits : Each is_digit fraction
  pub spelled : bytes ≡ sign_of negative ++ ((first ∷ others) ++ point_and fraction)
  pub value : digits ≡ decimal 0 ((first ∷ others) ++ fraction)
  pub few_places : places ≡ length fraction
  pub whole_within : length (first ∷ others) ≤ 19
  pub places_within : places ≤ 9

abbrev pub op_bytes : Op → List ℕ
op_bytes Plus = 43 ∷ []
op_bytes Minus = 45 ∷ []
op_bytes Times = 42 ∷ []
op_bytes Divide = 47 ∷ []
op_bytes Less = 60 ∷ []
op_bytes AtMost = 60 ∷ 61 ∷ []
op_bytes Equal = 61 ∷ []
op_bytes AtLeast = 62 ∷ 61 ∷ []
op_bytes Greater = 62 ∷ []

-- the bytes spell a token of this kind
abbrev pub Spells : Kind → List ℕ → Type 0
Spells Open bytes = bytes ≡ 40 ∷ []
Spells Close bytes = bytes ≡ 41 ∷ []
Spells OpenSquare bytes = bytes ≡ 91 ∷ []
Spells CloseSquare bytes = bytes ≡ 93 ∷ []
Spells Colon bytes = bytes ≡ 58 ∷ []
Spells Name bytes = IsName bytes
Spells Variable bytes = (name : List ℕ) × IsName name × (bytes ≡ 63 ∷ name)
Spells Keyword bytes = (name : List ℕ) × IsName name × (bytes ≡ 58 ∷ name)
Spells Number bytes = (negative : Bool) × (digits : ℕ) × (places : ℕ) × IsNumber negative digits places bytes
Spells Clock bytes = (t : ℕ) × (is_letter_of 116 t ≡ true) × (bytes ≡ 35 ∷ t ∷ [])
Spells End bytes = (e n d : ℕ) × (is_letter_of 101 e ≡ true) × (is_letter_of 110 n ≡ true) × (is_letter_of 100 d ≡ true)
    × (bytes ≡ 64 ∷ e ∷ n ∷ d ∷ [])
Spells (kinds.Op op) bytes = bytes ≡ op_bytes op

-- an operator is the longest that fits, and `-` right before a digit is none
abbrev pub EndsOp : Op → List ℕ → Type 0
EndsOp Minus rest = begins is_digit rest ≡ false
EndsOp Less rest = begins (λ b. b == 61) rest ≡ false
EndsOp Greater rest = begins (λ b. b == 61) rest ≡ false
EndsOp op rest = Unit {0}

-- a token of this kind may end before the rest: a name takes as many bytes as follow, a number ends before a byte
-- that may end one, `#t` and `@end` before no byte of a name
abbrev pub Ends : Kind → List ℕ → Type 0
Ends Colon rest = begins is_letter rest ≡ false
Ends Name rest = begins is_name_byte rest ≡ false
Ends Variable rest = begins is_name_byte rest ≡ false
Ends Keyword rest = begins is_name_byte rest ≡ false
Ends Number rest = (rest ≡ []) ⊎ (begins ends_number rest ≡ true)
Ends Clock rest = begins is_name_byte rest ≡ false
Ends End rest = begins is_name_byte rest ≡ false
Ends (kinds.Op op) rest = EndsOp op rest
Ends kind rest = Unit {0}

-- the first token from an offset on: a gap, the token's bytes, and the rest before which it may end
pub record IsFirst (text : List ℕ) (from : ℕ) (t : Token) : Type 0 where
  pub gap : List ℕ
  pub bytes : List ℕ
  pub rest : List ℕ
  pub parts : drop from text ≡ gap ++ (bytes ++ rest)
  pub is_gap : IsGap gap
  pub spelled : Spells t.kind bytes
  pub ends : Ends t.kind rest
  pub starts_at : t.start ≡ from + length gap
  pub ends_at : t.«end» ≡ t.start + length bytes
