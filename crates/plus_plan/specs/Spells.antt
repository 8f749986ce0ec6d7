-- Which tokens spell a line of a plan.
use Rattle.std.specs.Prelude.{◌≡◌, ℕ, ◌<◌, ◌≤◌, ◌^◌, ◌⊎◌, false, List, [], ◌∷◌, ◌++◌, Some, length, map, All}
use Rattle.plus_tokens.specs.declared.token.Kind.TheVariants as kinds
use Rattle.plus_tokens.specs.declared.token.Op.TheVariants as ops
use Rattle.plus_tree.specs.declared.trees.Call.{Call}
use Rattle.plus_plan.specs.declared.forms.Time.{Time}
use Rattle.plus_plan.specs.declared.forms.Line.{Line}
use Rattle.plus_plan.specs.declared.forms.Line.TheVariants as lines
use Rattle.plus_plan.specs.declared.forms.PlanForm.{PlanForm}
use Rattle.plus_plan.specs.declared.forms.PlanForm.TheVariants.{Timed, Untimed}
use Rattle.plus_tokens.specs.Items.{Piece, tok, items_of}
use Rattle.plus_tokens.specs.Numeral.{numeral, piece_numeral}
use Rattle.plus_plan.specs.Grammar.{around, time}

-- a Number without `-`: its digits, read as one number, and how many of them stand behind its point
abbrev pub IsUnsigned : ℕ → ℕ → Piece → Type 0
IsUnsigned digits places p = piece_numeral p ≡ Some (numeral false digits places)

-- a decimal: a Number without `-`, which means its digits over 10 to the power of its places
abbrev pub SpellsDecimal : Time → List Piece → Type 0
SpellsDecimal t ts =
    (p : Piece) × (digits : ℕ) × (places : ℕ) × IsUnsigned digits places p × (t ≡ time digits (10 ^ places) p.span) × (ts ≡ p ∷ [])

-- a quotient: two Numbers without `-` and point and a `/` between them, the second not 0
abbrev pub SpellsQuotient : Time → List Piece → Type 0
SpellsQuotient t ts =
    (p : Piece) × (slash : Piece) × (q : Piece) × (top : ℕ) × (bottom : ℕ)
    × IsUnsigned top 0 p × (slash.kind ≡ kinds.Op ops.Divide) × IsUnsigned bottom 0 q
    × (0 < bottom) × (t ≡ time top bottom (around p.span q.span)) × (ts ≡ p ∷ slash ∷ q ∷ [])

-- a time, which is a decimal or a quotient
abbrev pub SpellsTime : Time → List Piece → Type 0
SpellsTime t ts = SpellsDecimal t ts ⊎ SpellsQuotient t ts

-- a name
abbrev pub IsName : Piece → Type 0
IsName p = p.kind ≡ kinds.Name

-- a name and the names of its arguments, in parentheses
pub record SpellsCall (c : Call) (ts : List Piece) : Type 0 where
  pub first : Piece
  pub name : Piece
  pub args : List Piece
  pub last : Piece
  pub opens : first.kind ≡ kinds.Open
  pub named : IsName name
  pub names : All IsName args
  pub closes : last.kind ≡ kinds.Close
  pub is : c ≡ record { name = name.word; args = map (λ (p : Piece). p.word) args }
  pub whole : ts ≡ first ∷ name ∷ (args ++ last ∷ [])

-- a Number in square brackets, or nothing: how long an action is said to last, which has no effect
abbrev pub SpellsDuration : List Piece → Type 0
SpellsDuration ts =
    (ts ≡ [])
    ⊎ ((first : Piece) × (p : Piece) × (last : Piece)
    × (first.kind ≡ kinds.OpenSquare) × (p.kind ≡ kinds.Number) × (last.kind ≡ kinds.CloseSquare)
    × (ts ≡ first ∷ p ∷ last ∷ []))

-- a line of a timed plan, of this number: blank, `time : (name ..)`, perhaps with a duration, or `time : @end`
abbrev pub SpellsTimed : ℕ → Line → List Piece → Type 0
SpellsTimed n lines.Blank ts = ts ≡ []
SpellsTimed n (lines.Act m t c) ts =
    (front : List Piece) × (colon : Piece) × (call : List Piece) × (back : List Piece)
    × (m ≡ n) × SpellsTime t front × (colon.kind ≡ kinds.Colon) × SpellsCall c call × SpellsDuration back
    × (ts ≡ front ++ colon ∷ (call ++ back))
SpellsTimed n (lines.End m t) ts =
    (front : List Piece) × (colon : Piece) × (last : Piece)
    × (m ≡ n) × SpellsTime t front × (colon.kind ≡ kinds.Colon) × (last.kind ≡ kinds.End)
    × (ts ≡ front ++ colon ∷ last ∷ [])
SpellsTimed n (lines.Step m c) ts = ⊥

-- a line of an untimed plan, of this number: blank, or `(name ..)`
abbrev pub SpellsUntimed : ℕ → Line → List Piece → Type 0
SpellsUntimed n lines.Blank ts = ts ≡ []
SpellsUntimed n (lines.Step m c) ts = (m ≡ n) × SpellsCall c ts
SpellsUntimed n (lines.Act m t c) ts = ⊥
SpellsUntimed n (lines.End m t) ts = ⊥

abbrev pub SpellsTokens : PlanForm → ℕ → Line → List Piece → Type 0
SpellsTokens Timed n l ts = SpellsTimed n l ts
SpellsTokens Untimed n l ts = SpellsUntimed n l ts

-- the most bytes of a line, without its LF
abbrev pub line_limit : ℕ
line_limit = 4096

-- the bytes spell the line: their tokens do, nothing else stands in it, and there are no more bytes than a line may have
abbrev pub Spells : PlanForm → ℕ → Line → List ℕ → Type 0
Spells form n l bytes =
    (ts : List Piece) × (items_of bytes ≡ map tok ts) × SpellsTokens form n l ts × (length bytes ≤ line_limit)
