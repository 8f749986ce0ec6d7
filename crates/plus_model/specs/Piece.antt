-- Values that move along a line, and the test of values and slopes just after a state. None of this
-- is part of what a plan means. It is how the meaning can be computed: with constant rates each
-- expression that is linear has a value and a slope, and a condition keeps its truth between two
-- roots of its comparisons. The laws `AfterTells` and `OneTruthBetween` say that this computes what
-- the definitions say.
use Rattle.std.specs.Prelude.{◌≡◌, ℕ, Bool, true, false, List, Option, Some, None, ◌&&◌, ◌||◌, slice_get, unwrap_or, pos, if◌then◌else◌}
use Rattle.std.specs.declared.cmp.Ordering.{Ordering}
use Rattle.std.specs.declared.cmp.Ordering.TheVariants.{Less, Equal, Greater}
use Rattle.plus_fraction.specs.Fraction.{Fraction, whole, ◌+ℚ◌, ◌-ℚ◌, ◌*ℚ◌, ◌/ℚ◌, ◌<ℚ◌, compared}
use Rattle.plus_model.specs.Terms.{Expression, Number, Fluent, Sum, Difference, Product, Quotient, Test, Condition, Always, Never, Both, Either, Atom, Compare, State}
use Rattle.plus_model.specs.Value.{passes, is_zero, fluent_of, atom_of, signed}

-- no value, a product or quotient of moving values, or a value and a slope
pub data Piece : Type 0 where
  Missing Crooked : Piece
  Straight : Fraction → Fraction → Piece

-- an operation on two values that move along lines
abbrev pub on_pieces : (Fraction → Fraction → Fraction → Fraction → Piece) → Piece → Piece → Piece
on_pieces op Missing q = Missing
on_pieces op Crooked q = Crooked
on_pieces op (Straight v m) Missing = Missing
on_pieces op (Straight v m) Crooked = Crooked
on_pieces op (Straight v m) (Straight w n) = op v m w n

-- the rate of a fluent
abbrev pub rate_of : List Fraction → ℕ → Fraction
rate_of rs f = unwrap_or (slice_get rs f) (whole (pos 0))

-- a fluent that has a value moves at its rate
abbrev pub straight_fluent : Option Fraction → Fraction → Piece
straight_fluent None m = Missing
straight_fluent (Some v) m = Straight v m

-- one factor stands still, or the product is no line
abbrev pub product_piece : Fraction → Fraction → Fraction → Fraction → Piece
product_piece v m w n =
    if is_zero m then Straight (v *ℚ w) (v *ℚ n) else if is_zero n then Straight (v *ℚ w) (m *ℚ w) else Crooked

-- the divisor stands still
abbrev pub quotient_piece : Fraction → Fraction → Fraction → Fraction → Piece
quotient_piece v m w n =
    if is_zero n then if is_zero w then Missing else Straight (v /ℚ w) (m /ℚ w) else Crooked

-- value and slope of an expression along these rates
abbrev pub piece : Expression → State → List Fraction → Piece
piece (Number x) s rs = Straight x (whole (pos 0))
piece (Fluent f) s rs = straight_fluent (fluent_of s f) (rate_of rs f)
piece (Sum a b) s rs = on_pieces (λ v m w n. Straight (v +ℚ w) (m +ℚ n)) (piece a s rs) (piece b s rs)
piece (Difference a b) s rs =
    on_pieces (λ v m w n. Straight (v -ℚ w) (m -ℚ n)) (piece a s rs) (piece b s rs)
piece (Product a b) s rs = on_pieces product_piece (piece a s rs) (piece b s rs)
piece (Quotient a b) s rs = on_pieces quotient_piece (piece a s rs) (piece b s rs)

-- by the values, and by the slopes where the values are equal
abbrev pub then_slopes : Ordering → Ordering → Ordering
then_slopes Less o = Less
then_slopes Equal o = o
then_slopes Greater o = Greater

-- whether a comparison of these sides holds just after
abbrev pub after_sides : Test → Piece → Piece → Bool
after_sides test Missing q = false
after_sides test Crooked q = false
after_sides test (Straight v m) Missing = false
after_sides test (Straight v m) Crooked = false
after_sides test (Straight v m) (Straight w n) = passes test (then_slopes (compared v w) (compared m n))

-- the truth just after, by values and slopes
abbrev pub after : Condition → State → List Fraction → Bool
after Always s rs = true
after Never s rs = false
after (Both c d) s rs = after c s rs && after d s rs
after (Either c d) s rs = after c s rs || after d s rs
after (Atom a positive) s rs = signed positive (atom_of s a)
after (Compare test left right positive) s rs =
    signed positive (after_sides test (piece left s rs) (piece right s rs))

-- both sides are lines, or one has no value before the other is asked
abbrev pub StraightSides : Piece → Piece → Type 0
StraightSides Missing q = Unit {0}
StraightSides Crooked q = ⊥
StraightSides (Straight v m) Missing = Unit {0}
StraightSides (Straight v m) Crooked = ⊥
StraightSides (Straight v m) (Straight w n) = Unit {0}

-- every comparison has two such sides
abbrev pub IsStraight : Condition → State → List Fraction → Type 0
IsStraight Always s rs = Unit {0}
IsStraight Never s rs = Unit {0}
IsStraight (Both c d) s rs = IsStraight c s rs × IsStraight d s rs
IsStraight (Either c d) s rs = IsStraight c s rs × IsStraight d s rs
IsStraight (Atom a positive) s rs = Unit {0}
IsStraight (Compare test left right positive) s rs = StraightSides (piece left s rs) (piece right s rs)

-- two lines of different slopes do not meet strictly between a and b
abbrev pub NoRootSides : Piece → Piece → Fraction → Fraction → Type 0
NoRootSides Missing q a b = Unit {0}
NoRootSides Crooked q a b = ⊥
NoRootSides (Straight v m) Missing a b = Unit {0}
NoRootSides (Straight v m) Crooked a b = ⊥
NoRootSides (Straight v m) (Straight w n) a b =
    (r : Fraction) → a <ℚ r → r <ℚ b → (m ≡ n → ⊥) → v +ℚ m *ℚ r ≡ w +ℚ n *ℚ r → ⊥

-- no comparison has a root strictly between a and b
abbrev pub NoRoot : Condition → State → List Fraction → Fraction → Fraction → Type 0
NoRoot Always s rs a b = Unit {0}
NoRoot Never s rs a b = Unit {0}
NoRoot (Both c d) s rs a b = NoRoot c s rs a b × NoRoot d s rs a b
NoRoot (Either c d) s rs a b = NoRoot c s rs a b × NoRoot d s rs a b
NoRoot (Atom x positive) s rs a b = Unit {0}
NoRoot (Compare test left right positive) s rs a b =
    NoRootSides (piece left s rs) (piece right s rs) a b
