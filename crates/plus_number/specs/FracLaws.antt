-- The laws of `Frac64` as a type of exact fractions.
use Rattle.std.specs.Prelude.{◌≡◌, ℕ, ◌+◌, ◌*◌, ◌<◌, ◌≤◌, ℤ, pos, ◌+ℤ◌, ◌*ℤ◌, unsigned_abs}
use Rattle.std.proofs.Common.{ap, arith, refl, subst, sym, ◌∙◌, le_trans, mul-le-mul, mul-le-mul_left, add-le-add, add-mul, mul_assoc, mul_comm, mul-pos, le-mul_of_pos_right, le-add_left, le-add_right, div-le_self}
use Rattle.std.proofs.lemmas.Int.{ints, unsigned_abs-mul}
use mathlib.Core.HLevel.{is_prop→PathP}
use native.Mathlib.Bridge.{le_prop}
use native.Mathlib.Nat.{ℕ_set}
use Rattle.plus_number.specs.declared.frac.Frac64.{Frac64}
use Rattle.plus_fraction.specs.Gcd.{gcd, gcd_within}
use Rattle.plus_fraction.specs.Fraction.{Fraction, over, whole, ◌+ℚ◌, ◌*ℚ◌}
use Rattle.plus_number.specs.Size.{size}
use Rattle.plus_number.specs.Frac.{fraction_of, IsFrac64}
use Rattle.plus_number.specs.Parts.{over-top_size, over-bottom, over-small}

pub fits_of : (x : Frac64) → IsFrac64 (fraction_of x)
fits_of x = (x.top_fits, x.bottom_fits)

pub value_of_fit : (q : Fraction) → IsFrac64 q → (x : Frac64) × (fraction_of x ≡ q)
value_of_fit q f = (record { n = q.top; d = q.bottom; top_fits = f.0; bottom_fits = f.1; positive = q.positive; reduced = q.reduced }, refl)

pub injective_of : (x y : Frac64) → fraction_of x ≡ fraction_of y → x ≡ y
injective_of x y e =
    let n : x.n ≡ y.n = ap (λ (q : Fraction). q.top) e in
    let d : x.d ≡ y.d = ap (λ (q : Fraction). q.bottom) e in
    λ i. record {
      n = n i;
      d = d i;
      top_fits = is_prop→PathP (λ i. unsigned_abs (n i) ≤ 9223372036854775807) (λ i. le_prop) x.top_fits y.top_fits i;
      bottom_fits = is_prop→PathP (λ i. d i ≤ 9223372036854775807) (λ i. le_prop) x.bottom_fits y.bottom_fits i;
      positive = is_prop→PathP (λ i. 0 < d i) (λ i. le_prop) x.positive y.positive i;
      reduced = is_prop→PathP (λ i. gcd (unsigned_abs (n i)) (d i) ≡ 1) (λ i. ℕ_set _ _) x.reduced y.reduced i;
    }

pub zero_fits : IsFrac64 (whole (pos 0))
unfolding over gcd gcd_within
zero_fits = omega arith

pub one_fits : IsFrac64 (whole (pos 1))
unfolding over gcd gcd_within
one_fits = omega arith

-- ---- small values that move at small rates for a short delay
no_greater-top : (n : ℤ) (d : ℕ) → 0 < d → unsigned_abs ((over n d).top) ≤ unsigned_abs n
no_greater-top n d h = omega (arith, over-top_size n d _ h refl, div-le_self (unsigned_abs n) (gcd (unsigned_abs n) d))

no_greater-bottom : (n : ℤ) (d : ℕ) → 0 < d → (over n d).bottom ≤ d
no_greater-bottom n d h = omega (arith, over-bottom n d h, div-le_self d (gcd (unsigned_abs n) d))

-- a top and a bottom that are below the product of two sizes
gain-top : (r d : Fraction) → unsigned_abs (r.top *ℤ d.top) ≤ size r * size d
gain-top r d = subst (λ (k : ℕ). k ≤ size r * size d) (sym (unsigned_abs-mul r.top d.top)) (mul-le-mul (le-add_right (unsigned_abs r.top) r.bottom) (le-add_right (unsigned_abs d.top) d.bottom))

gain-bottom : (r d : Fraction) → r.bottom * d.bottom ≤ size r * size d
gain-bottom r d = mul-le-mul (le-add_left r.bottom (unsigned_abs r.top)) (le-add_left d.bottom (unsigned_abs d.top))

gain-positive : (r d : Fraction) → 0 < r.bottom * d.bottom
gain-positive r d = mul-pos r.positive d.positive

-- the parts of a sum, where those of the second are at most x
sum-top : (v : Fraction) (t : ℤ) (b x : ℕ) → unsigned_abs t ≤ x → b ≤ x → unsigned_abs (v.top *ℤ pos b +ℤ t *ℤ pos v.bottom) ≤ size v * x
sum-top v t b x p q =
    let left : unsigned_abs (v.top *ℤ pos b) ≤ unsigned_abs v.top * x = subst (λ (k : ℕ). k ≤ unsigned_abs v.top * x) (sym (unsigned_abs-mul v.top (pos b))) (mul-le-mul_left (unsigned_abs v.top) q) in
    let right : unsigned_abs (t *ℤ pos v.bottom) ≤ v.bottom * x = subst (λ (k : ℕ). k ≤ v.bottom * x) (sym (unsigned_abs-mul t (pos v.bottom) ∙ mul_comm (unsigned_abs t) v.bottom)) (mul-le-mul_left v.bottom p) in
    subst (λ (k : ℕ). unsigned_abs (v.top *ℤ pos b +ℤ t *ℤ pos v.bottom) ≤ k) (sym (add-mul (unsigned_abs v.top) v.bottom x))
    (le_trans (triangle (v.top *ℤ pos b) (t *ℤ pos v.bottom)) (add-le-add left right))
  where
    triangle : (a b : ℤ) → unsigned_abs (a +ℤ b) ≤ unsigned_abs a + unsigned_abs b
    triangle a b = omega (arith, ints)

sum-bottom : (v : Fraction) (b x : ℕ) → b ≤ x → v.bottom * b ≤ size v * x
sum-bottom v b x q = mul-le-mul (le-add_left v.bottom (unsigned_abs v.top)) q

sum-fits : (v g : Fraction) (x : ℕ) → unsigned_abs g.top ≤ x → g.bottom ≤ x → size v * x ≤ 9223372036854775807 → IsFrac64 (v +ℚ g)
unfolding ◌+ℚ◌
sum-fits v g x p q h =
    over-small (v.top *ℤ pos g.bottom +ℤ g.top *ℤ pos v.bottom) (v.bottom * g.bottom) (mul-pos v.positive g.positive)
    (le_trans (sum-top v g.top g.bottom x p q) h) (le_trans (sum-bottom v g.bottom x q) h)

gain_within : (r d : Fraction) → (unsigned_abs ((r *ℚ d).top) ≤ size r * size d) × ((r *ℚ d).bottom ≤ size r * size d)
unfolding ◌*ℚ◌
gain_within r d = (
  le_trans (no_greater-top (r.top *ℤ d.top) (r.bottom * d.bottom) (gain-positive r d)) (gain-top r d),
  le_trans (no_greater-bottom (r.top *ℤ d.top) (r.bottom * d.bottom) (gain-positive r d)) (gain-bottom r d),
)

size-positive : (v : Fraction) → 0 < size v
size-positive v = omega (arith, v.positive)

pub moves_fit : (v r d : Fraction) → size v * size r * size d ≤ 9223372036854775807 → IsFrac64 (r *ℚ d) × IsFrac64 (v +ℚ r *ℚ d)
moves_fit v r d h =
    let w = gain_within r d in
    let k : size v * (size r * size d) ≤ 9223372036854775807 = subst (λ (n : ℕ). n ≤ 9223372036854775807) (mul_assoc (size v) (size r) (size d)) h in
    let one : size r * size d ≤ 9223372036854775807 = le_trans (subst (λ (n : ℕ). size r * size d ≤ n) (mul_comm (size r * size d) (size v)) (le-mul_of_pos_right (size r * size d) (size-positive v))) k in
    ((le_trans w.0 one, le_trans w.1 one), sum-fits v (r *ℚ d) (size r * size d) w.0 w.1 k)
