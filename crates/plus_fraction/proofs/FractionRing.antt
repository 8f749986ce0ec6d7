-- Fractions are a commutative ring: `ringℚ` proves an identity from the terms of its two sides.
use Rattle.std.proofs.Common.{◌≡◌, ℕ, List, arith, ◌∙◌, refl, ℤ, pos, negsuc, ◌+ℤ◌, ◌-ℤ◌, ◌*ℤ◌, neg_ℤ, get_or}
use Rattle.plus_fraction.specs.Fraction.{Fraction, whole, ◌+ℚ◌, ◌-ℚ◌, ◌*ℚ◌, neg_ℚ}
use Rattle.plus_fraction.proofs.IntRing.{products, linear}
use Rattle.plus_fraction.proofs.FractionBase.{Is, Is-parts, same}
use Rattle.plus_fraction.proofs.FractionLaws.{Is-over, Is-add, Is-sub, Is-mul, Is-neg, +ℚ_comm, +ℚ_assoc, *ℚ_comm, *ℚ_assoc, *ℚ-+ℚ}
use Rattle.plus_fraction.proofs.Ring.{RingLaws, Term, normal, value, ring}

pub Is-whole : (n : ℤ) → Is (whole n) n (pos 1)
Is-whole n = Is-over n 1 (omega arith)

pub +ℚ-zero : (x : Fraction) → x +ℚ whole (pos 0) ≡ x
+ℚ-zero x = same (Is-add (Is-parts x) (Is-whole (pos 0))) (Is-parts x) (zero x.top (pos x.bottom))
  where
    zero : (a p : ℤ) → (a *ℤ pos 1 +ℤ pos 0 *ℤ p) *ℤ p ≡ a *ℤ (p *ℤ pos 1)
    zero a p = simp products (omega (arith, linear))

pub *ℚ-one : (x : Fraction) → x *ℚ whole (pos 1) ≡ x
*ℚ-one x = same (Is-mul (Is-parts x) (Is-whole (pos 1))) (Is-parts x) (one x.top (pos x.bottom))
  where
    one : (a p : ℤ) → (a *ℤ pos 1) *ℤ p ≡ a *ℤ (p *ℤ pos 1)
    one a p = simp products (omega (arith, linear))

pub *ℚ-zero : (x : Fraction) → x *ℚ whole (pos 0) ≡ whole (pos 0)
*ℚ-zero x = same (Is-mul (Is-parts x) (Is-whole (pos 0))) (Is-whole (pos 0)) (none x.top (pos x.bottom))
  where
    none : (a p : ℤ) → (a *ℤ pos 0) *ℤ pos 1 ≡ pos 0 *ℤ (p *ℤ pos 1)
    none a p = simp products (omega (arith, linear))

pub neg_ℚ_is : (x : Fraction) → neg_ℚ x ≡ whole (negsuc 0) *ℚ x
neg_ℚ_is x = same (Is-neg (Is-parts x)) (Is-mul (Is-whole (negsuc 0)) (Is-parts x)) (negated x.top (pos x.bottom))
  where
    negated : (a p : ℤ) → neg_ℤ a *ℤ (pos 1 *ℤ p) ≡ (negsuc 0 *ℤ a) *ℤ p
    negated a p = simp products (omega (arith, linear))

pub -ℚ_is : (x y : Fraction) → x -ℚ y ≡ x +ℚ neg_ℚ y
-ℚ_is x y = same (Is-sub (Is-parts x) (Is-parts y)) (Is-add (Is-parts x) (Is-neg (Is-parts y))) (less x.top (pos x.bottom) y.top (pos y.bottom))
  where
    less : (a p b q : ℤ) → (a *ℤ q -ℤ b *ℤ p) *ℤ (p *ℤ q) ≡ (a *ℤ q +ℤ neg_ℤ b *ℤ p) *ℤ (p *ℤ q)
    less a p b q = simp products (omega (arith, linear))

pub whole-add : (a b : ℤ) → whole (a +ℤ b) ≡ whole a +ℚ whole b
whole-add a b = same (Is-whole (a +ℤ b)) (Is-add (Is-whole a) (Is-whole b)) (sum a b)
  where
    sum : (a b : ℤ) → (a +ℤ b) *ℤ (pos 1 *ℤ pos 1) ≡ (a *ℤ pos 1 +ℤ b *ℤ pos 1) *ℤ pos 1
    sum a b = simp products (omega (arith, linear))

pub whole-mul : (a b : ℤ) → whole (a *ℤ b) ≡ whole a *ℚ whole b
whole-mul a b = same (Is-whole (a *ℤ b)) (Is-mul (Is-whole a) (Is-whole b)) (product a b)
  where
    product : (a b : ℤ) → (a *ℤ b) *ℤ (pos 1 *ℤ pos 1) ≡ (a *ℤ b) *ℤ pos 1
    product a b = refl

pub zero-+ℚ : (x : Fraction) → whole (pos 0) +ℚ x ≡ x
zero-+ℚ x = +ℚ_comm _ x ∙ +ℚ-zero x

pub one-*ℚ : (x : Fraction) → whole (pos 1) *ℚ x ≡ x
one-*ℚ x = *ℚ_comm _ x ∙ *ℚ-one x

pub zero-*ℚ : (x : Fraction) → whole (pos 0) *ℚ x ≡ whole (pos 0)
zero-*ℚ x = *ℚ_comm _ x ∙ *ℚ-zero x

abbrev pub lawsℚ : RingLaws Fraction
lawsℚ = record {
  add = ◌+ℚ◌;
  mul = ◌*ℚ◌;
  sub = ◌-ℚ◌;
  neg = neg_ℚ;
  of_int = whole;
  add_comm = +ℚ_comm;
  add_assoc = +ℚ_assoc;
  add_zero = +ℚ-zero;
  mul_comm = *ℚ_comm;
  mul_assoc = *ℚ_assoc;
  mul_one = *ℚ-one;
  mul_zero = *ℚ-zero;
  mul_add = *ℚ-+ℚ;
  neg_is = neg_ℚ_is;
  sub_is = -ℚ_is;
  of_int-add = whole-add;
  of_int-mul = whole-mul;
}

-- the fractions by their place in a list
abbrev pub from : List Fraction → ℕ → Fraction
from xs i = get_or xs i (whole (pos 0))

pub ringℚ : (xs : List Fraction) (s t : Term) → normal s ≡ normal t → value lawsℚ (from xs) s ≡ value lawsℚ (from xs) t
ringℚ xs s t e = ring lawsℚ (from xs) s t e
