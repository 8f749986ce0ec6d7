-- Where a line that is none is refused: behind the longest front of its tokens with which some line begins.
use Rattle.std.specs.Prelude.{◌≡◌, ℕ, ◌<◌, ◌≤◌, ◌⊎◌, List, [], ◌∷◌, ◌++◌, length, map}
use Rattle.plus_tokens.specs.declared.span.Span.{Span}
use Rattle.plus_tokens.specs.declared.token.LexFault.{LexFault}
use Rattle.plus_plan.specs.declared.forms.Line.{Line}
use Rattle.plus_plan.specs.declared.forms.PlanForm.{PlanForm}
use Rattle.plus_plan.specs.declared.faults.PlanFault.{PlanFault}
use Rattle.plus_plan.specs.declared.faults.PlanFault.TheVariants as faults
use Rattle.plus_tokens.specs.Items.{Piece, Item, tok, bad, items_of}
use Rattle.plus_plan.specs.Reading.{byte_place}
use Rattle.plus_plan.specs.Spells.{SpellsTokens, line_limit}

-- some line begins with these tokens
abbrev pub Begins : PlanForm → ℕ → List Piece → Type 0
Begins form n before = (more : List Piece) × (l : Line) × SpellsTokens form n l (before ++ more)

-- behind these tokens stand bytes, of which the one at this place spells no token
abbrev pub NoToken : List ℕ → List Piece → Span → Type 0
NoToken bytes before s = (f : LexFault) × (rest : List Item) × (items_of bytes ≡ map tok before ++ bad f ∷ rest) × (s ≡ byte_place f)

-- behind these tokens stands one, at this place, with which no line goes on
abbrev pub NoLineGoesOn : PlanForm → ℕ → List ℕ → List Piece → Span → Type 0
NoLineGoesOn form n bytes before s =
    (p : Piece) × (rest : List Item) × (items_of bytes ≡ map tok before ++ tok p ∷ rest) × (p.span ≡ s) × (Begins form n (before ++ p ∷ []) → ⊥)

-- these tokens are all, and no line; the place is the end of the bytes
abbrev pub EndsEarly : PlanForm → ℕ → List ℕ → List Piece → Span → Type 0
EndsEarly form n bytes before s =
    (items_of bytes ≡ map tok before) × (s.start ≡ length bytes) × (s.«end» ≡ length bytes) × ((l : Line) → SpellsTokens form n l before → ⊥)

-- the place at which bytes are refused as line n
abbrev pub IsPlace : PlanForm → ℕ → List ℕ → Span → Type 0
IsPlace form n bytes s =
    (before : List Piece) × Begins form n before
    × (NoToken bytes before s ⊎ (NoLineGoesOn form n bytes before s ⊎ EndsEarly form n bytes before s))

-- why bytes are refused as line n, but for want of memory
abbrev pub IsFault : PlanForm → ℕ → List ℕ → PlanFault → Type 0
IsFault form n bytes (faults.NotLine m start last) =
    (m ≡ n) × (length bytes ≤ line_limit) × IsPlace form n bytes (record { start = start; «end» = last })
IsFault form n bytes (faults.LineTooLong m) = (m ≡ n) × (line_limit < length bytes)
IsFault form n bytes faults.Memory = Unit {0}
