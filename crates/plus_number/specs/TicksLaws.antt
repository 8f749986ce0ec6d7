-- The laws of `Ticks` as a type of exact fractions.
use Rattle.std.specs.Prelude.{◌≡◌, ◌*◌, ◌<◌, ◌≤◌, ℤ, pos, unsigned_abs, refl}
use Rattle.std.proofs.Common.{arith, sym, subst, ◌∙◌, mul-pos}
use mathlib.Core.HLevel.{is_prop→PathP}
use native.Mathlib.Bridge.{le_prop}
use Rattle.plus_number.specs.declared.ticks.Ticks.{Ticks}
use Rattle.plus_fraction.specs.Fraction.{Fraction, over, whole, ◌+ℚ◌, ◌*ℚ◌}
use Rattle.plus_fraction.proofs.FractionBase.{Is, same}
use Rattle.plus_fraction.proofs.FractionLaws.{Is-over}
use Rattle.plus_fraction.proofs.FractionRing.{Is-whole}
use Rattle.plus_fraction.proofs.FractionLinear.{num-by}
use Rattle.plus_number.specs.Size.{size}
use Rattle.plus_number.specs.Ticks.{fraction_of, IsTicks}

-- k millionths
pub Is-ticks : (k : ℤ) → Is (over k 1000000) k (pos 1000000)
Is-ticks k = Is-over k 1000000 (omega arith)

pub ticks_injective : (k l : ℤ) → over k 1000000 ≡ over l 1000000 → k ≡ l
ticks_injective k l e = sym (num-by 1000000 (over k 1000000) k (Is-ticks k)) ∙ num-by 1000000 (over k 1000000) l (subst (λ (q : Fraction). Is q l (pos 1000000)) (sym e) (Is-ticks l))

pub fits_of : (x : Ticks) → IsTicks (fraction_of x)
fits_of x = (x.k, x.in_range, refl)

pub value_of_fit : (q : Fraction) → IsTicks q → (x : Ticks) × (fraction_of x ≡ q)
value_of_fit q f = (record { k = f.0; in_range = f.1 }, f.2)

pub injective_of : (x y : Ticks) → fraction_of x ≡ fraction_of y → x ≡ y
injective_of x y e =
    let k : x.k ≡ y.k = ticks_injective x.k y.k e in
    λ i. record { k = k i; in_range = is_prop→PathP (λ i. unsigned_abs (k i) ≤ 9223372036854775807) (λ i. le_prop) x.in_range y.in_range i }

pub zero_fits : IsTicks (whole (pos 0))
zero_fits = (pos 0, omega arith, same (Is-ticks (pos 0)) (Is-whole (pos 0)) refl)

pub one_fits : IsTicks (whole (pos 1))
one_fits = (pos 1000000, omega arith, same (Is-ticks (pos 1000000)) (Is-whole (pos 1)) refl)

-- no product of three sizes is 0
size-positive : (v : Fraction) → 0 < size v
size-positive v = omega (arith, v.positive)

pub moves_fit : (v r d : Fraction) → size v * size r * size d ≤ 0 → IsTicks (r *ℚ d) × IsTicks (v +ℚ r *ℚ d)
moves_fit v r d h = absurd (omega (arith, h, mul-pos (mul-pos (size-positive v) (size-positive r)) (size-positive d)))
