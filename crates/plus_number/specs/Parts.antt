-- The parts of a pair that is reduced.
use Rattle.std.specs.Prelude.{◌≡◌, ℕ, zero, suc, ◌/◌, ◌<◌, ◌≤◌, ℤ, pos, negsuc, unsigned_abs, int_div}
use Rattle.std.proofs.Common.{ap, arith, refl, sym, ◌∙◌, div-le_self}
use Rattle.plus_fraction.specs.Gcd.{gcd, with_sign}
use Rattle.plus_fraction.specs.Fraction.{over}
use Rattle.plus_number.specs.Frac.{IsFrac64}

pub unsigned_abs-with_sign : (n : ℤ) (k : ℕ) → unsigned_abs (with_sign n k) ≡ k
unsigned_abs-with_sign (pos n) k = refl
unsigned_abs-with_sign (negsuc n) zero = refl
unsigned_abs-with_sign (negsuc n) (suc k) = refl

int_div_is : (n : ℤ) (g : ℕ) → int_div n (pos g) ≡ with_sign n (unsigned_abs n / g)
int_div_is (pos n) g = refl
int_div_is (negsuc n) g = refl

pub over-top : (n : ℤ) (d : ℕ) → 0 < d → (over n d).top ≡ with_sign n (unsigned_abs n / gcd (unsigned_abs n) d)
unfolding over
over-top n zero h = absurd (omega arith)
over-top n (suc k) h = int_div_is n _

pub over-bottom : (n : ℤ) (d : ℕ) → 0 < d → (over n d).bottom ≡ d / gcd (unsigned_abs n) d
unfolding over
over-bottom n zero h = absurd (omega arith)
over-bottom n (suc k) h = refl

-- the parts over a divisor g that is their gcd
pub over-top_size : (n : ℤ) (d g : ℕ) → 0 < d → g ≡ gcd (unsigned_abs n) d → unsigned_abs ((over n d).top) ≡ unsigned_abs n / g
over-top_size n d g h e = ap unsigned_abs (over-top n d h) ∙ unsigned_abs-with_sign n _ ∙ ap (λ (k : ℕ). unsigned_abs n / k) (sym e)

-- the parts are no greater than those that are given
pub over-small : (n : ℤ) (d : ℕ) → 0 < d → unsigned_abs n ≤ 9223372036854775807 → d ≤ 9223372036854775807 → IsFrac64 (over n d)
over-small n d h p q = (omega (arith, over-top_size n d _ h refl, div-le_self (unsigned_abs n) (gcd (unsigned_abs n) d)), omega (arith, over-bottom n d h, div-le_self d (gcd (unsigned_abs n) d)))
