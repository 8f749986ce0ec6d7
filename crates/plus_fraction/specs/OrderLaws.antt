-- Fractions are totally ordered, and the order goes with the operations.
use Rattle.std.specs.Prelude.{◌≡◌, ◌⊎◌, ◌↔◌, IsTrue, pos}
use Rattle.std.specs.declared.cmp.Ordering.TheVariants.{Less, Equal, Greater}
use Rattle.plus_fraction.specs.Fraction.{Fraction, whole, ◌+ℚ◌, ◌*ℚ◌, ◌<ℚ◌, ◌≤ℚ◌, ◌==ℚ◌, compared}

abbrev pub LessIsIrreflexive : Type 0
LessIsIrreflexive = (x : Fraction) → x <ℚ x → ⊥

abbrev pub LessIsTransitive : Type 0
LessIsTransitive = (x y z : Fraction) → x <ℚ y → y <ℚ z → x <ℚ z

abbrev pub LessIsTotal : Type 0
LessIsTotal = (x y : Fraction) → (x <ℚ y) ⊎ ((x ≡ y) ⊎ (y <ℚ x))

abbrev pub AtMostIsLessOrEqual : Type 0
AtMostIsLessOrEqual = (x y : Fraction) → (x ≤ℚ y) ↔ ((x <ℚ y) ⊎ (x ≡ y))

-- between two fractions there is a third
abbrev pub OrderIsDense : Type 0
OrderIsDense = (x y : Fraction) → x <ℚ y → (z : Fraction) × (x <ℚ z) × (z <ℚ y)

-- ---- with the operations
abbrev pub SumsKeepOrder : Type 0
SumsKeepOrder = (x y z : Fraction) → x <ℚ y → x +ℚ z <ℚ y +ℚ z

abbrev pub ProductsKeepOrder : Type 0
ProductsKeepOrder = (x y z : Fraction) → x <ℚ y → whole (pos 0) <ℚ z → x *ℚ z <ℚ y *ℚ z

-- ---- the tests
abbrev pub LessTells : Type 0
LessTells = (x y : Fraction) → (compared x y ≡ Less) ↔ (x <ℚ y)

abbrev pub EqualTells : Type 0
EqualTells = (x y : Fraction) → (compared x y ≡ Equal) ↔ (x ≡ y)

abbrev pub GreaterTells : Type 0
GreaterTells = (x y : Fraction) → (compared x y ≡ Greater) ↔ (y <ℚ x)

abbrev pub SameTells : Type 0
SameTells = (x y : Fraction) → IsTrue (x ==ℚ y) ↔ (x ≡ y)
