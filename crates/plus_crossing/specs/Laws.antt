-- What a piece tells of the value, and the constancy law.
use Rattle.std.specs.Prelude.{◌≡◌, List, Option, Some, None, unwrap_or, pos}
use Rattle.plus_fraction.specs.Fraction.{Fraction, whole, ◌+ℚ◌, ◌*ℚ◌, ◌<ℚ◌, ◌≤ℚ◌}
use Rattle.plus_model.specs.Terms.{Expression, Condition, State}
use Rattle.plus_model.specs.Value.{value, holds}
use Rattle.plus_model.specs.Running.{moved}
use Rattle.plus_model.specs.Piece.{Missing, Straight, piece}
use Rattle.plus_crossing.specs.Asked.{AllPass}
use Rattle.plus_crossing.specs.Conds.{live_asks}
use Rattle.plus_crossing.specs.Next.{cross_asks, LiveRoot, IsNext}

-- an expression has at each moment the value of its line, and none at each moment where its piece is none
pub record PiecesTell : Type 0 where
  pub straight : (e : Expression) (s : State) (rs : List Fraction) (v m : Fraction) → piece e s rs ≡ Straight v m → (x : Fraction) → value e (moved s rs x) ≡ Some (v +ℚ m *ℚ x)
  pub missing : (e : Expression) (s : State) (rs : List Fraction) → piece e s rs ≡ Missing → (x : Fraction) → value e (moved s rs x) ≡ None

-- every number fits
abbrev pub AnySize : Fraction → Type 0
AnySize x = Unit {0}

-- the live comparisons are linear: as far as their sides are taken, there is no product of two moving factors and no moving
-- divisor. Whether the numbers fit a type does not matter
abbrev pub IsLinear : Condition → State → List Fraction → Type 0
IsLinear c s rs = AllPass AnySize (live_asks 0 c s rs)

-- where the live comparisons are linear and none has a root strictly between a and u, the condition has one truth at every
-- fraction between
abbrev pub OneTruthUntilRoot : Type 0
OneTruthUntilRoot =
    (c : Condition) (s : State) (rs : List Fraction) (a u : Fraction)
    → whole (pos 0) ≤ℚ a → IsLinear c s rs → ((x : Fraction) → a <ℚ x → x <ℚ u → LiveRoot c s rs x → ⊥)
    → (x y : Fraction) → a <ℚ x → x <ℚ u → a <ℚ y → y <ℚ u → holds c (moved s rs x) ≡ holds c (moved s rs y)

-- so it has one truth at every fraction strictly between a and the next root, or u where there is none
abbrev pub OneTruthUntilNext : (Fraction → Type 0) → Type 0
OneTruthUntilNext fits =
    (c : Condition) (s : State) (rs : List Fraction) (a u : Fraction) (next : Option Fraction)
    → whole (pos 0) ≤ℚ a → AllPass fits (cross_asks 0 c s rs) → IsNext (LiveRoot c s rs) a u next
    → (x y : Fraction) → a <ℚ x → x <ℚ unwrap_or next u → a <ℚ y → y <ℚ unwrap_or next u → holds c (moved s rs x) ≡ holds c (moved s rs y)
