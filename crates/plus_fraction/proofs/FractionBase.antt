-- A fraction is determined by its cross products.
use Rattle.std.proofs.Common.{◌≡◌, ℕ, ◌<◌, arith, sym, ◌∙◌, ap, refl, subst, ℤ, pos, ◌*ℤ◌, ◌<ℤ◌, unsigned_abs}
use mathlib.Core.HLevel.{is_prop→PathP}
use native.Mathlib.Bridge.{le_prop}
use native.Mathlib.Nat.{ℕ_set}
use Rattle.std.proofs.lemmas.Int.{ints}
use Rattle.std.proofs.Math.Nat.{dvd-mul_left, dvd_antisymm}
use Prim.Native.Nat.{◌∣◌}
use Rattle.plus_fraction.specs.Gcd.{gcd}
use Rattle.plus_fraction.specs.GcdLemmas.{dvd_of_coprime}
use Rattle.plus_fraction.specs.Fraction.{Fraction}
use Rattle.plus_fraction.proofs.IntRing.{products, linear, cancel_eq, *ℤ-pos, unsigned_abs-*ℤ}

-- two fractions with the same parts are one
pub same_parts : (x y : Fraction) → x.top ≡ y.top → x.bottom ≡ y.bottom → x ≡ y
same_parts x y t b = λ i. record {
  top = t i;
  bottom = b i;
  positive = is_prop→PathP (λ i. 0 < b i) (λ i. le_prop) x.positive y.positive i;
  reduced = is_prop→PathP (λ i. gcd (unsigned_abs (t i)) (b i) ≡ 1) (λ i. ℕ_set _ _) x.reduced y.reduced i;
}

pub above : (x : Fraction) → pos 0 <ℤ pos x.bottom
above x = let h = x.positive in omega (arith, ints)

bottom_divides : (x y : Fraction) → x.top *ℤ pos y.bottom ≡ y.top *ℤ pos x.bottom → x.bottom ∣ y.bottom
bottom_divides x y e =
    dvd_of_coprime (unsigned_abs x.top) x.bottom y.bottom x.reduced y.positive
    (subst (λ (n : ℕ). x.bottom ∣ n) (sym (sym (unsigned_abs-*ℤ x.top y.bottom) ∙ ap unsigned_abs e ∙ unsigned_abs-*ℤ y.top x.bottom)) (dvd-mul_left x.bottom (unsigned_abs y.top)))

-- equal cross products, equal fractions
pub same_cross : (x y : Fraction) → x.top *ℤ pos y.bottom ≡ y.top *ℤ pos x.bottom → x ≡ y
same_cross x y e =
    let b : x.bottom ≡ y.bottom = dvd_antisymm (bottom_divides x y e) (bottom_divides y x (sym e)) in
    same_parts x y (cancel_eq x.top y.top (pos x.bottom) (above x) (ap (λ (n : ℕ). x.top *ℤ pos n) b ∙ e)) b

-- x is n/d, reduced or not
pub record Is (x : Fraction) (n d : ℤ) : Type 0 where
  pub above : pos 0 <ℤ d
  pub cross : x.top *ℤ d ≡ n *ℤ pos x.bottom

-- its own parts
pub Is-parts : (x : Fraction) → Is x x.top (pos x.bottom)
Is-parts x = record { above = above x; cross = refl }

pub identity : (t d n b m e u c : ℤ) → t *ℤ d ≡ n *ℤ b → u *ℤ e ≡ m *ℤ c → n *ℤ e ≡ m *ℤ d → (t *ℤ c) *ℤ (d *ℤ e) ≡ (u *ℤ b) *ℤ (d *ℤ e)
identity t d n b m e u c p q r =
    let p' = simp products at (ap (λ x. x *ℤ (c *ℤ e)) p) in
    let q' = simp products at (ap (λ x. x *ℤ (b *ℤ d)) q) in
    let r' = simp products at (ap (λ x. x *ℤ (b *ℤ c)) r) in
    simp products (omega (arith, linear))

-- two fractions are equal where their cross products are
pub same : {x y : Fraction} {n d m e : ℤ} → Is x n d → Is y m e → n *ℤ e ≡ m *ℤ d → x ≡ y
same {x} {y} {n} {d} {m} {e} p q r =
    same_cross x y (cancel_eq _ _ (d *ℤ e) (*ℤ-pos d e p.above q.above)
    (identity x.top d n (pos x.bottom) m e y.top (pos y.bottom) p.cross q.cross r))

crossed : (t b n d m e : ℤ) → t *ℤ d ≡ n *ℤ b → t *ℤ e ≡ m *ℤ b → (n *ℤ e) *ℤ b ≡ (m *ℤ d) *ℤ b
crossed t b n d m e p q =
    let p' = simp products at (ap (λ x. x *ℤ e) p) in
    let q' = simp products at (ap (λ x. x *ℤ d) q) in
    simp products (omega (arith, linear))

-- parts of one fraction have equal cross products
pub of_Is : {x : Fraction} {n d m e : ℤ} → Is x n d → Is x m e → n *ℤ e ≡ m *ℤ d
of_Is {x} {n} {d} {m} {e} p q = cancel_eq _ _ (pos x.bottom) (above x) (crossed x.top (pos x.bottom) n d m e p.cross q.cross)
