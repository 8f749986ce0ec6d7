-- Fractions are a field.
use Rattle.std.specs.Prelude.{◌≡◌, ℕ, ◌<◌, ◌↔◌, ℤ, pos, ◌*ℤ◌}
use Rattle.std.specs.Int.{IsGcd}
use Rattle.plus_fraction.specs.Gcd.{gcd}
use Rattle.plus_fraction.specs.Fraction.{Fraction, over, whole, ◌+ℚ◌, ◌-ℚ◌, ◌*ℚ◌, ◌/ℚ◌, neg_ℚ}

-- `gcd` is the greatest common divisor
abbrev pub GcdIsGreatest : Type 0
GcdIsGreatest = (a b : ℕ) → IsGcd a b (gcd a b)

-- fractions are equal exactly where their cross products are
abbrev pub EqualByCross : Type 0
EqualByCross = (x y : Fraction) → (x ≡ y) ↔ (x.top *ℤ pos y.bottom ≡ y.top *ℤ pos x.bottom)

-- `over n d` is the fraction n/d
abbrev pub OverIsQuotient : Type 0
OverIsQuotient = (n : ℤ) (d : ℕ) → 0 < d → (over n d).top *ℤ pos d ≡ n *ℤ pos ((over n d).bottom)

-- ---- sums
abbrev pub SumsCommute : Type 0
SumsCommute = (x y : Fraction) → x +ℚ y ≡ y +ℚ x

abbrev pub SumsAssociate : Type 0
SumsAssociate = (x y z : Fraction) → (x +ℚ y) +ℚ z ≡ x +ℚ (y +ℚ z)

abbrev pub ZeroIsNeutral : Type 0
ZeroIsNeutral = (x : Fraction) → x +ℚ whole (pos 0) ≡ x

abbrev pub OppositesCancel : Type 0
OppositesCancel = (x : Fraction) → x +ℚ neg_ℚ x ≡ whole (pos 0)

abbrev pub DifferencesAddOpposites : Type 0
DifferencesAddOpposites = (x y : Fraction) → x -ℚ y ≡ x +ℚ neg_ℚ y

-- ---- products
abbrev pub ProductsCommute : Type 0
ProductsCommute = (x y : Fraction) → x *ℚ y ≡ y *ℚ x

abbrev pub ProductsAssociate : Type 0
ProductsAssociate = (x y z : Fraction) → (x *ℚ y) *ℚ z ≡ x *ℚ (y *ℚ z)

abbrev pub OneIsNeutral : Type 0
OneIsNeutral = (x : Fraction) → x *ℚ whole (pos 1) ≡ x

abbrev pub ProductsDistribute : Type 0
ProductsDistribute = (x y z : Fraction) → x *ℚ (y +ℚ z) ≡ x *ℚ y +ℚ x *ℚ z

abbrev pub QuotientsUndo : Type 0
QuotientsUndo = (x y : Fraction) → (y ≡ whole (pos 0) → ⊥) → x /ℚ y *ℚ y ≡ x

abbrev pub ZeroIsNotOne : Type 0
ZeroIsNotOne = whole (pos 0) ≡ whole (pos 1) → ⊥
