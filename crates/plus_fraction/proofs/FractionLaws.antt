-- The operations on cross products, and the laws of a field.
use Rattle.std.proofs.Common.{◌≡◌, ℕ, zero, suc, ◌*◌, ◌/◌, ◌<◌, arith, ◌∙◌, ap, ℤ, pos, negsuc, ◌+ℤ◌, ◌-ℤ◌, ◌*ℤ◌, ◌<ℤ◌, neg_ℤ, unsigned_abs, int_div, mul-pos}
use Rattle.std.proofs.lemmas.Int.{ints}
use Rattle.std.proofs.Math.Nat.{div-mul_cancel}
use Prim.Native.Nat.{◌∣◌}
use Rattle.plus_fraction.specs.Gcd.{gcd}
use Rattle.plus_fraction.specs.GcdLemmas.{gcd_is}
use Rattle.plus_fraction.specs.Fraction.{Fraction, over, ◌+ℚ◌, ◌-ℚ◌, ◌*ℚ◌, neg_ℚ}
use Rattle.plus_fraction.proofs.IntRing.{products, linear, cancel_eq, *ℤ-pos, neg-*ℤ}
use Rattle.plus_fraction.proofs.FractionBase.{Is, Is-parts, same}

pub int_div-mul : (n : ℤ) (g : ℕ) → g ∣ unsigned_abs n → int_div n (pos g) *ℤ pos g ≡ n
int_div-mul (pos a) g d = ap pos (div-mul_cancel g d)
int_div-mul (negsuc a) g d = neg-*ℤ (pos (suc a / g)) (pos g) ∙ ap (λ (k : ℕ). neg_ℤ (pos k)) (div-mul_cancel g d)

pub scaled : (t G n Q K : ℤ) → t *ℤ G ≡ n → Q *ℤ G ≡ K → t *ℤ K ≡ n *ℤ Q
scaled t G n Q K p q =
    let p' = simp products at (ap (λ x. x *ℤ Q) p) in
    let q' = simp products at (ap (λ x. x *ℤ t) q) in
    omega (arith, linear)

pub Is-over : (n : ℤ) (d : ℕ) → 0 < d → Is (over n d) n (pos d)
unfolding over
Is-over n zero h = absurd (omega arith)
Is-over n (suc k) h = record {
  above = omega (arith, ints);
  cross = scaled _ (pos (gcd (unsigned_abs n) (suc k))) n _ _ (int_div-mul n _ (gcd_is (unsigned_abs n) (suc k)).0) (ap pos (div-mul_cancel _ (gcd_is (unsigned_abs n) (suc k)).1));
}

pub rebased : (t z N D n d : ℤ) → t *ℤ D ≡ N *ℤ z → N *ℤ d ≡ n *ℤ D → (t *ℤ d) *ℤ D ≡ (n *ℤ z) *ℤ D
rebased t z N D n d p q =
    let p' = simp products at (ap (λ x. x *ℤ d) p) in
    let q' = simp products at (ap (λ x. x *ℤ z) q) in
    simp products (omega (arith, linear))

-- to other parts
pub Is-rebase : {x : Fraction} {N D : ℤ} (n d : ℤ) → Is x N D → pos 0 <ℤ d → N *ℤ d ≡ n *ℤ D → Is x n d
Is-rebase {x} {N} {D} n d p h e = record {
  above = h;
  cross = cancel_eq _ _ D p.above (rebased x.top (pos x.bottom) N D n d p.cross e);
}

below_product : (x y : Fraction) → 0 < x.bottom * y.bottom
below_product x y = mul-pos x.positive y.positive

pub added : (t n b d u m c e : ℤ) → t *ℤ d ≡ n *ℤ b → u *ℤ e ≡ m *ℤ c → (t *ℤ c +ℤ u *ℤ b) *ℤ (d *ℤ e) ≡ (n *ℤ e +ℤ m *ℤ d) *ℤ (b *ℤ c)
added t n b d u m c e p q =
    let p' = simp products at (ap (λ x. x *ℤ (c *ℤ e)) p) in
    let q' = simp products at (ap (λ x. x *ℤ (b *ℤ d)) q) in
    simp products (omega (arith, linear))

pub Is-add : {x y : Fraction} {n d m e : ℤ} → Is x n d → Is y m e → Is (x +ℚ y) (n *ℤ e +ℤ m *ℤ d) (d *ℤ e)
unfolding ◌+ℚ◌
Is-add {x} {y} {n} {d} {m} {e} p q =
    Is-rebase _ _ (Is-over _ _ (below_product x y)) (*ℤ-pos d e p.above q.above)
    (added x.top n (pos x.bottom) d y.top m (pos y.bottom) e p.cross q.cross)

subtracted : (t n b d u m c e : ℤ) → t *ℤ d ≡ n *ℤ b → u *ℤ e ≡ m *ℤ c → (t *ℤ c -ℤ u *ℤ b) *ℤ (d *ℤ e) ≡ (n *ℤ e -ℤ m *ℤ d) *ℤ (b *ℤ c)
subtracted t n b d u m c e p q =
    let p' = simp products at (ap (λ x. x *ℤ (c *ℤ e)) p) in
    let q' = simp products at (ap (λ x. x *ℤ (b *ℤ d)) q) in
    simp products (omega (arith, linear))

pub Is-sub : {x y : Fraction} {n d m e : ℤ} → Is x n d → Is y m e → Is (x -ℚ y) (n *ℤ e -ℤ m *ℤ d) (d *ℤ e)
unfolding ◌-ℚ◌
Is-sub {x} {y} {n} {d} {m} {e} p q =
    Is-rebase _ _ (Is-over _ _ (below_product x y)) (*ℤ-pos d e p.above q.above)
    (subtracted x.top n (pos x.bottom) d y.top m (pos y.bottom) e p.cross q.cross)

pub multiplied : (t n b d u m c e : ℤ) → t *ℤ d ≡ n *ℤ b → u *ℤ e ≡ m *ℤ c → (t *ℤ u) *ℤ (d *ℤ e) ≡ (n *ℤ m) *ℤ (b *ℤ c)
multiplied t n b d u m c e p q =
    let p' = simp products at (ap (λ x. x *ℤ (u *ℤ e)) p) in
    let q' = simp products at (ap (λ x. x *ℤ (n *ℤ b)) q) in
    simp products (omega (arith, linear))

pub Is-mul : {x y : Fraction} {n d m e : ℤ} → Is x n d → Is y m e → Is (x *ℚ y) (n *ℤ m) (d *ℤ e)
unfolding ◌*ℚ◌
Is-mul {x} {y} {n} {d} {m} {e} p q =
    Is-rebase _ _ (Is-over _ _ (below_product x y)) (*ℤ-pos d e p.above q.above)
    (multiplied x.top n (pos x.bottom) d y.top m (pos y.bottom) e p.cross q.cross)

negated : (t n b d : ℤ) → t *ℤ d ≡ n *ℤ b → neg_ℤ t *ℤ d ≡ neg_ℤ n *ℤ b
negated t n b d p = simp (neg-*ℤ, p)

pub Is-neg : {x : Fraction} {n d : ℤ} → Is x n d → Is (neg_ℚ x) (neg_ℤ n) d
unfolding neg_ℚ
Is-neg {x} {n} {d} p = Is-rebase _ _ (Is-over _ _ x.positive) p.above (negated x.top n (pos x.bottom) d p.cross)

-- ---- the laws
pub +ℚ_comm : (x y : Fraction) → x +ℚ y ≡ y +ℚ x
+ℚ_comm x y = same (Is-add (Is-parts x) (Is-parts y)) (Is-add (Is-parts y) (Is-parts x)) (comm x.top (pos x.bottom) y.top (pos y.bottom))
  where
    comm : (a p b q : ℤ) → (a *ℤ q +ℤ b *ℤ p) *ℤ (q *ℤ p) ≡ (b *ℤ p +ℤ a *ℤ q) *ℤ (p *ℤ q)
    comm a p b q = simp products (omega (arith, linear))

pub +ℚ_assoc : (x y z : Fraction) → (x +ℚ y) +ℚ z ≡ x +ℚ (y +ℚ z)
+ℚ_assoc x y z =
    let X = Is-parts x in
    let Y = Is-parts y in
    let Z = Is-parts z in
    same (Is-add (Is-add X Y) Z) (Is-add X (Is-add Y Z)) (assoc x.top (pos x.bottom) y.top (pos y.bottom) z.top (pos z.bottom))
  where
    assoc : (a p b q c r : ℤ) → ((a *ℤ q +ℤ b *ℤ p) *ℤ r +ℤ c *ℤ (p *ℤ q)) *ℤ (p *ℤ (q *ℤ r)) ≡ (a *ℤ (q *ℤ r) +ℤ (b *ℤ r +ℤ c *ℤ q) *ℤ p) *ℤ ((p *ℤ q) *ℤ r)
    assoc a p b q c r = simp products (omega (arith, linear))

pub *ℚ_comm : (x y : Fraction) → x *ℚ y ≡ y *ℚ x
*ℚ_comm x y = same (Is-mul (Is-parts x) (Is-parts y)) (Is-mul (Is-parts y) (Is-parts x)) (comm x.top (pos x.bottom) y.top (pos y.bottom))
  where
    comm : (a p b q : ℤ) → (a *ℤ b) *ℤ (q *ℤ p) ≡ (b *ℤ a) *ℤ (p *ℤ q)
    comm a p b q = simp products (omega (arith, linear))

pub *ℚ_assoc : (x y z : Fraction) → (x *ℚ y) *ℚ z ≡ x *ℚ (y *ℚ z)
*ℚ_assoc x y z =
    let X = Is-parts x in
    let Y = Is-parts y in
    let Z = Is-parts z in
    same (Is-mul (Is-mul X Y) Z) (Is-mul X (Is-mul Y Z)) (assoc x.top (pos x.bottom) y.top (pos y.bottom) z.top (pos z.bottom))
  where
    assoc : (a p b q c r : ℤ) → ((a *ℤ b) *ℤ c) *ℤ (p *ℤ (q *ℤ r)) ≡ (a *ℤ (b *ℤ c)) *ℤ ((p *ℤ q) *ℤ r)
    assoc a p b q c r = simp products (omega (arith, linear))

pub *ℚ-+ℚ : (x y z : Fraction) → x *ℚ (y +ℚ z) ≡ x *ℚ y +ℚ x *ℚ z
*ℚ-+ℚ x y z =
    let X = Is-parts x in
    let Y = Is-parts y in
    let Z = Is-parts z in
    same (Is-mul X (Is-add Y Z)) (Is-add (Is-mul X Y) (Is-mul X Z)) (distribute x.top (pos x.bottom) y.top (pos y.bottom) z.top (pos z.bottom))
  where
    distribute : (a p b q c r : ℤ) → (a *ℤ (b *ℤ r +ℤ c *ℤ q)) *ℤ ((p *ℤ q) *ℤ (p *ℤ r)) ≡ ((a *ℤ b) *ℤ (p *ℤ r) +ℤ (a *ℤ c) *ℤ (p *ℤ q)) *ℤ (p *ℤ (q *ℤ r))
    distribute a p b q c r = simp products (omega (arith, linear))
