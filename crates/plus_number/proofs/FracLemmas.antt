use Rattle.std.proofs.Common.{int_cmp, ◌<ℤ◌, ◌≢◌, Less, Equal, Greater, Ordering, ◌+ℤ◌, ◌-ℤ◌, subst, ◌*ℤ◌, ◌≤◌, ◌≡◌, ℕ, ◌/◌, ◌<◌, arith, sym, ◌∙◌, ap, ap₂, refl, ℤ, pos, negsuc, unsigned_abs, SFits, w64}
use Rattle.plus_fraction.specs.Gcd.{gcd, with_sign}
use Rattle.plus_number.specs.Parts.{over-top, over-bottom, over-top_size}
use Rattle.plus_fraction.specs.Fraction.{Fraction, over, whole, ◌+ℚ◌, ◌-ℚ◌, compared}
use Rattle.plus_fraction.specs.GcdLemmas.{gcd-one}
use Rattle.plus_fraction.proofs.FractionRing.{Is-whole}
use Rattle.std.proofs.lemmas.Int.{ints}
use Rattle.plus_number.specs.Frac.{fraction_of}
use Rattle.plus_number.specs.declared.frac.Frac64.{Frac64}
use Rattle.plus_fraction.proofs.FractionBase.{same_parts, Is, Is-parts, same}
use Rattle.plus_fraction.proofs.FractionLaws.{Is-over, Is-add, Is-sub}
use Rattle.plus_fraction.proofs.FractionSigns.{compared_by}
use Rattle.plus_fraction.proofs.Compared.{less-compared, compared-less, compared-equal}
use Rattle.plus_fraction.proofs.IntRing.{products, linear}

pub over-bottom_by : (n : ℤ) (d g : ℕ) → 0 < d → g ≡ gcd (unsigned_abs n) d → (over n d).bottom ≡ d / g
over-bottom_by n d g h e = over-bottom n d h ∙ ap (λ (k : ℕ). d / k) (sym e)

pub over-top_by : (n : ℤ) (d g : ℕ) → 0 < d → g ≡ gcd (unsigned_abs n) d → (over n d).top ≡ with_sign n (unsigned_abs n / g)
over-top_by n d g h e = over-top n d h ∙ ap (λ (k : ℕ). with_sign n (unsigned_abs n / k)) (sym e)

pub reduced_by : (x : Fraction) (t : ℤ) (b : ℕ) → x.top ≡ t → x.bottom ≡ b → gcd (unsigned_abs t) b ≡ 1
reduced_by x t b p q = sym (ap₂ (λ (t : ℤ) (b : ℕ). gcd (unsigned_abs t) b) p q) ∙ x.reduced

-- a whole number
pub whole-bottom : (n : ℤ) → (whole n).bottom ≡ 1
whole-bottom n = over-bottom n 1 (omega arith) ∙ ap (λ (k : ℕ). 1 / k) (gcd-one _)

pub whole-top : (n : ℤ) → (whole n).top ≡ n
whole-top n =
    let k = subst (λ (b : ℕ). (whole n).top *ℤ pos 1 ≡ n *ℤ pos b) (whole-bottom n) (Is-whole n).cross in
    omega (arith, ints)

pub fits_small : (n : ℤ) → unsigned_abs n ≤ 9223372036854775807 → SFits w64 n
fits_small (pos n) h = record { sfits = omega arith }
fits_small (negsuc n) h = record { sfits = omega arith }

-- what the code computes of n/d: the size of n, the divisor, and the sign put back
pub record Divided (n : ℤ) (d size g : ℕ) : Type 0 where
  pub top_size : unsigned_abs ((over n d).top) ≡ size / g
  pub top : (over n d).top ≡ with_sign n (size / g)
  pub bottom : (over n d).bottom ≡ d / g

pub divided : (n : ℤ) (d size g : ℕ) → 0 < d → size ≡ unsigned_abs n → g ≡ gcd size d → Divided n d size g
divided n d size g h s e =
    let e' : g ≡ gcd (unsigned_abs n) d = e ∙ ap (λ (k : ℕ). gcd k d) s in
    record {
      top_size = over-top_size n d g h e' ∙ ap (λ (k : ℕ). k / g) (sym s);
      top = over-top_by n d g h e' ∙ ap (λ (k : ℕ). with_sign n (k / g)) (sym s);
      bottom = over-bottom_by n d g h e';
    }

-- ---- operands of one bottom
same_bottom : (f g : Frac64) → f.d ≡ g.d → Is (fraction_of g) g.n (pos f.d)
same_bottom f g e = subst (λ (d : ℕ). Is (fraction_of g) g.n (pos d)) (sym e) (Is-parts (fraction_of g))

pub same_bottom-add : (f g : Frac64) (n : ℤ) → f.d ≡ g.d → n ≡ f.n +ℤ g.n → over n f.d ≡ fraction_of f +ℚ fraction_of g
same_bottom-add f g n e k = same (Is-over n f.d f.positive) (Is-add (Is-parts (fraction_of f)) (same_bottom f g e)) (joined f.n g.n n (pos f.d) k)
  where
    joined : (a b n d : ℤ) → n ≡ a +ℤ b → n *ℤ (d *ℤ d) ≡ (a *ℤ d +ℤ b *ℤ d) *ℤ d
    joined a b n d k = rw k (simp products (omega (arith, linear)))

pub same_bottom-sub : (f g : Frac64) (n : ℤ) → f.d ≡ g.d → n ≡ f.n -ℤ g.n → over n f.d ≡ fraction_of f -ℚ fraction_of g
same_bottom-sub f g n e k = same (Is-over n f.d f.positive) (Is-sub (Is-parts (fraction_of f)) (same_bottom f g e)) (joined f.n g.n n (pos f.d) k)
  where
    joined : (a b n d : ℤ) → n ≡ a -ℤ b → n *ℤ (d *ℤ d) ≡ (a *ℤ d -ℤ b *ℤ d) *ℤ d
    joined a b n d k = rw k (simp products (omega (arith, linear)))

pub same_bottom-compared : (f g : Frac64) → f.d ≡ g.d → compared (fraction_of f) (fraction_of g) ≡ int_cmp f.n g.n
same_bottom-compared f g e = compared_by (pos f.d) (Is-parts (fraction_of f)) (same_bottom f g e)

-- ---- an operand that is 0
pub none-add : (f g : Frac64) → f.n ≡ pos 0 → fraction_of g ≡ fraction_of f +ℚ fraction_of g
none-add f g e = same (Is-parts (fraction_of g)) (Is-add (Is-parts (fraction_of f)) (Is-parts (fraction_of g))) (joined f.n g.n (pos f.d) (pos g.d) e)
  where
    joined : (a b c d : ℤ) → a ≡ pos 0 → b *ℤ (c *ℤ d) ≡ (a *ℤ d +ℤ b *ℤ c) *ℤ d
    joined a b c d e = rw e (simp products (omega (arith, linear)))

pub less-none : (f g : Frac64) → g.n ≡ pos 0 → fraction_of f ≡ fraction_of f -ℚ fraction_of g
less-none f g e = same (Is-parts (fraction_of f)) (Is-sub (Is-parts (fraction_of f)) (Is-parts (fraction_of g))) (joined f.n g.n (pos f.d) (pos g.d) e)
  where
    joined : (a b c d : ℤ) → b ≡ pos 0 → a *ℤ (c *ℤ d) ≡ (a *ℤ d -ℤ b *ℤ c) *ℤ c
    joined a b c d e = rw e (simp products (omega (arith, linear)))

-- ---- two fractions with different bottoms, whose cross products are a and b
pub less_apart : (x y : Fraction) (a b : ℤ) → a ≡ x.top *ℤ pos y.bottom → b ≡ y.top *ℤ pos x.bottom → a <ℤ b → Less ≡ compared x y
less_apart x y a b p q h = sym (less-compared x y (record { cross = subst (λ (c : ℤ). c <ℤ (y.top *ℤ pos x.bottom)) p (subst (λ (c : ℤ). a <ℤ c) q h) }))

pub greater_apart :
    (x y : Fraction) (a b : ℤ) → a ≡ x.top *ℤ pos y.bottom → b ≡ y.top *ℤ pos x.bottom
    → x.bottom ≢ y.bottom → (a <ℤ b → ⊥) → Greater ≡ compared x y
greater_apart x y a b p q apart h = by_order (compared x y) refl
  where
    by_order : (r : Ordering) → compared x y ≡ r → Greater ≡ compared x y
    by_order Less e = absurd (h (subst (λ (c : ℤ). a <ℤ c) (sym q) (subst (λ (c : ℤ). c <ℤ (y.top *ℤ pos x.bottom)) (sym p) ((compared-less x y e).cross))))
    by_order Equal e = absurd (apart (ap (λ (z : Fraction). z.bottom) (compared-equal x y e)))
    by_order Greater e = sym e
