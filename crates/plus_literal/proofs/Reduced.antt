-- A quotient of whole numbers, perhaps below 0, with their greatest common divisor taken out.
use Rattle.std.proofs.Common.{◌≡◌, ℕ, zero, suc, ◌/◌, ◌<◌, Bool, true, false, arith, refl, sym, ap, ap₂, subst, ◌∙◌, pos, neg_ℤ, unsigned_abs}
use Rattle.plus_fraction.specs.Gcd.{gcd, with_sign}
use Rattle.plus_fraction.specs.Fraction.{Fraction, over}
use Rattle.plus_fraction.proofs.FractionBase.{Is-parts, same}
use Rattle.plus_fraction.proofs.FractionLaws.{Is-over}
use Rattle.plus_number.proofs.FracLemmas.{over-top_by, over-bottom_by}
use Rattle.plus_literal.specs.Value.{signed_whole}

pub size_of : (negative : Bool) (n : ℕ) → unsigned_abs (signed_whole negative n) ≡ n
size_of false n = refl
size_of true zero = refl
size_of true (suc n) = refl

-- the sign of a number, which 0 has not
signed-quotient : (negative : Bool) (n d : ℕ) → 0 < d → with_sign (signed_whole negative n) (n / d) ≡ signed_whole negative (n / d)
signed-quotient false n d h = refl
signed-quotient true zero d h =
    let none : 0 / d ≡ 0 = omega arith in
    subst (λ (k : ℕ). pos k ≡ neg_ℤ (pos k)) (sym none) refl
signed-quotient true (suc n) d h = refl

-- the parts that the fraction has
pub record Parts (negative : Bool) (top bottom divisor : ℕ) : Type 0 where
  pub top_is : (over (signed_whole negative top) bottom).top ≡ signed_whole negative (top / divisor)
  pub bottom_is : (over (signed_whole negative top) bottom).bottom ≡ bottom / divisor

pub parts : (negative : Bool) (top bottom divisor : ℕ) → 0 < bottom → 0 < divisor → divisor ≡ gcd top bottom → Parts negative top bottom divisor
parts negative top bottom divisor above some e =
    let size = size_of negative top in
    let is_gcd = e ∙ ap (λ (k : ℕ). gcd k bottom) (sym size) in
    record {
      top_is =
          over-top_by (signed_whole negative top) bottom divisor above is_gcd
          ∙ ap (λ (k : ℕ). with_sign (signed_whole negative top) (k / divisor)) size ∙ signed-quotient negative top divisor some;
      bottom_is = over-bottom_by (signed_whole negative top) bottom divisor above is_gcd;
    }

over-parts : (x : Fraction) → over x.top x.bottom ≡ x
over-parts x = same (Is-over x.top x.bottom x.positive) (Is-parts x) refl

pub over-reduced :
    (negative : Bool) (top bottom divisor : ℕ) → Parts negative top bottom divisor
    → over (signed_whole negative (top / divisor)) (bottom / divisor) ≡ over (signed_whole negative top) bottom
over-reduced negative top bottom divisor p =
    ap₂ over (sym p.top_is) (sym p.bottom_is) ∙ over-parts (over (signed_whole negative top) bottom)
