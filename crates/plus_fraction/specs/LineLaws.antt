-- Lines: roots, one order between meetings, and what holds just after 0.
use Rattle.std.specs.Prelude.{◌≡◌, ◌⊎◌, ◌↔◌, IsTrue, Bool, pos}
use Rattle.std.specs.declared.cmp.Ordering.{Ordering}
use Rattle.plus_fraction.specs.Fraction.{Fraction, whole, ◌<ℚ◌, ◌≤ℚ◌, compared}
use Rattle.plus_fraction.specs.Lines.{line, order_after}
use Rattle.plus_fraction.specs.JustAfter.{JustAfter}

-- ---- roots
abbrev pub HasRootBetween : Fraction → Fraction → Fraction → Fraction → Type 0
HasRootBetween v m a b = (r : Fraction) × (a <ℚ r) × (r <ℚ b) × (line v m r ≡ whole (pos 0))

-- a line that goes from below 0 to above 0 is 0 strictly between
abbrev pub RisingHasRoot : Type 0
RisingHasRoot =
    (v m a b : Fraction) → a <ℚ b → line v m a <ℚ whole (pos 0) → whole (pos 0) <ℚ line v m b
    → HasRootBetween v m a b

-- so is one that goes from above 0 to below 0
abbrev pub FallingHasRoot : Type 0
FallingHasRoot =
    (v m a b : Fraction) → a <ℚ b → whole (pos 0) <ℚ line v m a → line v m b <ℚ whole (pos 0)
    → HasRootBetween v m a b

-- ---- two lines
-- they do not meet strictly between a and b
abbrev pub IsApart : Fraction → Fraction → Fraction → Fraction → Fraction → Fraction → Type 0
IsApart v m w n a b = (r : Fraction) → a <ℚ r → r <ℚ b → line v m r ≡ line w n r → ⊥

-- what is below at a stays below where they do not meet
abbrev pub StaysBelow : Type 0
StaysBelow =
    (v m w n a b x : Fraction) → IsApart v m w n a b → line v m a <ℚ line w n a → a <ℚ x → x <ℚ b
    → line v m x <ℚ line w n x

-- where they do not meet they compare alike everywhere
abbrev pub OneOrderApart : Type 0
OneOrderApart =
    (v m w n a b x y : Fraction) → IsApart v m w n a b → a <ℚ x → x <ℚ b → a <ℚ y → y <ℚ b
    → compared (line v m x) (line w n x) ≡ compared (line v m y) (line w n y)

-- lines of one slope compare as their values do
abbrev pub OneSlopeOneOrder : Type 0
OneSlopeOneOrder = (v w m x : Fraction) → compared (line v m x) (line w m x) ≡ compared v w

-- ---- just after 0
abbrev pub OrderJustAfter : Type 0
OrderJustAfter =
    (v m w n : Fraction)
    → JustAfter (λ x. compared (line v m x) (line w n x) ≡ order_after v m w n)

-- any test of the order holds just after exactly where it holds of the values and then the slopes
abbrev pub TestJustAfter : Type 0
TestJustAfter =
    (test : Ordering → Bool) (v m w n : Fraction)
    → JustAfter (λ x. IsTrue (test (compared (line v m x) (line w n x)))) ↔ IsTrue (test (order_after v m w n))

-- below, at most and equal; above and at least are these with the lines exchanged
abbrev pub LessJustAfter : Type 0
LessJustAfter =
    (v m w n : Fraction)
    → JustAfter (λ x. line v m x <ℚ line w n x) ↔ ((v <ℚ w) ⊎ ((v ≡ w) × (m <ℚ n)))

abbrev pub AtMostJustAfter : Type 0
AtMostJustAfter =
    (v m w n : Fraction)
    → JustAfter (λ x. line v m x ≤ℚ line w n x) ↔ ((v <ℚ w) ⊎ ((v ≡ w) × (m ≤ℚ n)))

abbrev pub EqualJustAfter : Type 0
EqualJustAfter =
    (v m w n : Fraction)
    → JustAfter (λ x. line v m x ≡ line w n x) ↔ ((v ≡ w) × (m ≡ n))
