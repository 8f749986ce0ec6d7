-- A fraction: a reduced pair of whole numbers with a denominator of at least 1, of any size.
use Rattle.std.specs.Prelude.{◌≡◌, ℕ, zero, suc, ◌*◌, ◌/◌, ◌<◌, Bool, ℤ, pos, negsuc, ◌+ℤ◌, ◌-ℤ◌, ◌*ℤ◌, ◌<ℤ◌, ◌≤ℤ◌, neg_ℤ, unsigned_abs, int_div}
use Rattle.std.specs.Ordering.{int_cmp, int_eq}
use Rattle.std.specs.declared.cmp.Ordering.{Ordering}
use Rattle.plus_fraction.specs.Gcd.{gcd}
use Rattle.plus_fraction.specs.GcdLemmas.{IsPositive-quotient, IsReduced-quotient, IsPositive-one, IsReduced-one}

-- Equal fractions have equal parts, so `≡` is equality of fractions.
pub record Fraction : Type 0 where
  pub top : ℤ
  pub bottom : ℕ
  pub positive : 0 < bottom
  pub reduced : gcd (unsigned_abs top) bottom ≡ 1

-- n/d reduced; 0 where d is 0
unfoldable pub over : ℤ → ℕ → Fraction
over n zero = record { top = pos 0; bottom = 1; positive = IsPositive-one; reduced = IsReduced-one }
over n (suc k) =
    record {
      top = int_div n (pos (gcd (unsigned_abs n) (suc k)));
      bottom = suc k / gcd (unsigned_abs n) (suc k);
      positive = IsPositive-quotient n k;
      reduced = IsReduced-quotient n k;
    }

-- n/1
abbrev pub whole : ℤ → Fraction
whole n = over n 1

-- ---- arithmetic, by the rules that are taught at school
infixl 6 ◌+ℚ◌
unfoldable pub ◌+ℚ◌ : Fraction → Fraction → Fraction
x +ℚ y = over (x.top *ℤ pos y.bottom +ℤ y.top *ℤ pos x.bottom) (x.bottom * y.bottom)

unfoldable pub neg_ℚ : Fraction → Fraction
neg_ℚ x = over (neg_ℤ x.top) x.bottom

infixl 6 ◌-ℚ◌
unfoldable pub ◌-ℚ◌ : Fraction → Fraction → Fraction
x -ℚ y = over (x.top *ℤ pos y.bottom -ℤ y.top *ℤ pos x.bottom) (x.bottom * y.bottom)

infixl 7 ◌*ℚ◌
unfoldable pub ◌*ℚ◌ : Fraction → Fraction → Fraction
x *ℚ y = over (x.top *ℤ y.top) (x.bottom * y.bottom)

-- -1 below 0, else 1
abbrev pub sign_of : ℤ → ℤ
sign_of (pos n) = pos 1
sign_of (negsuc n) = negsuc 0

-- x times the reciprocal of y, whose denominator is brought above 0 by its sign; 0 where y is 0
infixl 7 ◌/ℚ◌
unfoldable pub ◌/ℚ◌ : Fraction → Fraction → Fraction
x /ℚ y = over (x.top *ℤ pos y.bottom *ℤ sign_of y.top) (x.bottom * unsigned_abs y.top)

-- ---- order, by cross products (records, so that a hypothesis tells its two sides)
infix 4 ◌<ℚ◌ ◌≤ℚ◌ ◌==ℚ◌
pub record ◌<ℚ◌ (x y : Fraction) : Type 0 where
  pub cross : (x.top *ℤ pos y.bottom) <ℤ (y.top *ℤ pos x.bottom)

pub record ◌≤ℚ◌ (x y : Fraction) : Type 0 where
  pub cross : (x.top *ℤ pos y.bottom) ≤ℤ (y.top *ℤ pos x.bottom)

-- the test that tells below, equal and above
unfoldable pub compared : Fraction → Fraction → Ordering
compared x y = int_cmp (x.top *ℤ pos y.bottom) (y.top *ℤ pos x.bottom)

-- the test of equality
unfoldable pub ◌==ℚ◌ : Fraction → Fraction → Bool
x ==ℚ y = int_eq (x.top *ℤ pos y.bottom) (y.top *ℤ pos x.bottom)
