-- The order of fractions, on cross products, and the laws of an ordered field.
use Rattle.std.proofs.Common.{◌≡◌, arith, ap, ℤ, pos, ◌+ℤ◌, ◌*ℤ◌, ◌<ℤ◌, ◌≤ℤ◌, ◌⊎◌, inl, inr}
use Rattle.std.proofs.lemmas.Int.{ints, by_lt_z}
use Rattle.plus_fraction.specs.Fraction.{Fraction, whole, ◌+ℚ◌, ◌*ℚ◌, ◌<ℚ◌, ◌≤ℚ◌}
use Rattle.plus_fraction.proofs.IntRing.{products, linear, cancel_lt, cancel_le, *ℤ-lt, *ℤ-le, *ℤ-pos}
use Rattle.plus_fraction.proofs.FractionBase.{Is, Is-parts, same_cross, above}
use Rattle.plus_fraction.proofs.FractionLaws.{Is-over, Is-add, Is-mul}

lt_crossed : (t n b d u m c e : ℤ) → pos 0 <ℤ (b *ℤ c) → t *ℤ d ≡ n *ℤ b → u *ℤ e ≡ m *ℤ c → (n *ℤ e) <ℤ (m *ℤ d) → ((t *ℤ c) *ℤ (d *ℤ e)) <ℤ ((u *ℤ b) *ℤ (d *ℤ e))
lt_crossed t n b d u m c e k p q h =
    let p' = simp products at (ap (λ x. x *ℤ (c *ℤ e)) p) in
    let q' = simp products at (ap (λ x. x *ℤ (b *ℤ d)) q) in
    let h' = simp products at (*ℤ-lt (n *ℤ e) (m *ℤ d) (b *ℤ c) h k) in
    simp products (omega (arith, linear))

le_crossed : (t n b d u m c e : ℤ) → pos 0 ≤ℤ (b *ℤ c) → t *ℤ d ≡ n *ℤ b → u *ℤ e ≡ m *ℤ c → (n *ℤ e) ≤ℤ (m *ℤ d) → ((t *ℤ c) *ℤ (d *ℤ e)) ≤ℤ ((u *ℤ b) *ℤ (d *ℤ e))
le_crossed t n b d u m c e k p q h =
    let p' = simp products at (ap (λ x. x *ℤ (c *ℤ e)) p) in
    let q' = simp products at (ap (λ x. x *ℤ (b *ℤ d)) q) in
    let h' = simp products at (*ℤ-le (n *ℤ e) (m *ℤ d) (b *ℤ c) h k) in
    simp products (omega (arith, linear))

pub lt_by : {x y : Fraction} {n d m e : ℤ} → Is x n d → Is y m e → (n *ℤ e) <ℤ (m *ℤ d) → x <ℚ y
lt_by {x} {y} {n} {d} {m} {e} p q h = record {
  cross = cancel_lt _ _ (d *ℤ e) (*ℤ-pos d e p.above q.above)
      (lt_crossed x.top n (pos x.bottom) d y.top m (pos y.bottom) e (*ℤ-pos _ _ (above x) (above y)) p.cross q.cross h);
}

pub le_by : {x y : Fraction} {n d m e : ℤ} → Is x n d → Is y m e → (n *ℤ e) ≤ℤ (m *ℤ d) → x ≤ℚ y
le_by {x} {y} {n} {d} {m} {e} p q h = record {
  cross = cancel_le _ _ (d *ℤ e) (*ℤ-pos d e p.above q.above)
      (le_crossed x.top n (pos x.bottom) d y.top m (pos y.bottom) e (let k = *ℤ-pos _ _ (above x) (above y) in omega (arith, ints)) p.cross q.cross h);
}

lt_back : (t n b d u m c e : ℤ) → pos 0 <ℤ (d *ℤ e) → t *ℤ d ≡ n *ℤ b → u *ℤ e ≡ m *ℤ c → (t *ℤ c) <ℤ (u *ℤ b) → ((n *ℤ e) *ℤ (b *ℤ c)) <ℤ ((m *ℤ d) *ℤ (b *ℤ c))
lt_back t n b d u m c e k p q h =
    let p' = simp products at (ap (λ x. x *ℤ (c *ℤ e)) p) in
    let q' = simp products at (ap (λ x. x *ℤ (b *ℤ d)) q) in
    let h' = simp products at (*ℤ-lt (t *ℤ c) (u *ℤ b) (d *ℤ e) h k) in
    simp products (omega (arith, linear))

pub lt_of : {x y : Fraction} {n d m e : ℤ} → Is x n d → Is y m e → x <ℚ y → (n *ℤ e) <ℤ (m *ℤ d)
lt_of {x} {y} {n} {d} {m} {e} p q h =
    cancel_lt _ _ (pos x.bottom *ℤ pos y.bottom) (*ℤ-pos _ _ (above x) (above y))
    (lt_back x.top n (pos x.bottom) d y.top m (pos y.bottom) e (*ℤ-pos d e p.above q.above) p.cross q.cross h.cross)

le_back : (t n b d u m c e : ℤ) → pos 0 ≤ℤ (d *ℤ e) → t *ℤ d ≡ n *ℤ b → u *ℤ e ≡ m *ℤ c → (t *ℤ c) ≤ℤ (u *ℤ b) → ((n *ℤ e) *ℤ (b *ℤ c)) ≤ℤ ((m *ℤ d) *ℤ (b *ℤ c))
le_back t n b d u m c e k p q h =
    let p' = simp products at (ap (λ x. x *ℤ (c *ℤ e)) p) in
    let q' = simp products at (ap (λ x. x *ℤ (b *ℤ d)) q) in
    let h' = simp products at (*ℤ-le (t *ℤ c) (u *ℤ b) (d *ℤ e) h k) in
    simp products (omega (arith, linear))

pub le_of : {x y : Fraction} {n d m e : ℤ} → Is x n d → Is y m e → x ≤ℚ y → (n *ℤ e) ≤ℤ (m *ℤ d)
le_of {x} {y} {n} {d} {m} {e} p q h =
    cancel_le _ _ (pos x.bottom *ℤ pos y.bottom) (*ℤ-pos _ _ (above x) (above y))
    (le_back x.top n (pos x.bottom) d y.top m (pos y.bottom) e (let k = *ℤ-pos d e p.above q.above in omega (arith, ints)) p.cross q.cross h.cross)

-- ---- a total order
pub <ℚ_irrefl : (x : Fraction) → x <ℚ x → ⊥
<ℚ_irrefl x h = let k = h.cross in omega (arith, linear)

pub <ℚ_trans : (x y z : Fraction) → x <ℚ y → y <ℚ z → x <ℚ z
<ℚ_trans x y z h k = record { cross = cancel_lt _ _ (pos y.bottom) (above y) (trans x.top (pos x.bottom) y.top (pos y.bottom) z.top (pos z.bottom) (above x) (above z) h.cross k.cross) }
  where
    trans : (a p b q c r : ℤ) → pos 0 <ℤ p → pos 0 <ℤ r → (a *ℤ q) <ℤ (b *ℤ p) → (b *ℤ r) <ℤ (c *ℤ q) → ((a *ℤ r) *ℤ q) <ℤ ((c *ℤ p) *ℤ q)
    trans a p b q c r P R h k =
        let h' = simp products at (*ℤ-lt _ _ r h R) in
        let k' = simp products at (*ℤ-lt _ _ p k P) in
        simp products (omega (arith, linear))

pub <ℚ_or : (x y : Fraction) → (x <ℚ y) ⊎ ((x ≡ y) ⊎ (y <ℚ x))
<ℚ_or x y = by_lt_z (x.top *ℤ pos y.bottom) (y.top *ℤ pos x.bottom) (λ h. inl (record { cross = h }))
    (λ k. by_lt_z (y.top *ℤ pos x.bottom) (x.top *ℤ pos y.bottom) (λ h. inr (inr (record { cross = h })))
    (λ l. inr (inl (same_cross x y (omega (arith, ints))))))

-- ---- with the operations
pub +ℚ-lt : (x y z : Fraction) → x <ℚ y → x +ℚ z <ℚ y +ℚ z
+ℚ-lt x y z h =
    let X = Is-parts x in
    let Y = Is-parts y in
    let Z = Is-parts z in
    lt_by (Is-add X Z) (Is-add Y Z) (sum x.top (pos x.bottom) y.top (pos y.bottom) z.top (pos z.bottom) (above z) h.cross)
  where
    sum : (a p b q c r : ℤ) → pos 0 <ℤ r → (a *ℤ q) <ℤ (b *ℤ p) → ((a *ℤ r +ℤ c *ℤ p) *ℤ (q *ℤ r)) <ℤ ((b *ℤ r +ℤ c *ℤ q) *ℤ (p *ℤ r))
    sum a p b q c r R h =
        let h' = simp products at (*ℤ-lt _ _ (r *ℤ r) h (*ℤ-pos r r R R)) in
        simp products (omega (arith, linear))

pub *ℚ-lt : (x y z : Fraction) → x <ℚ y → whole (pos 0) <ℚ z → x *ℚ z <ℚ y *ℚ z
*ℚ-lt x y z h p =
    let X = Is-parts x in
    let Y = Is-parts y in
    let Z = Is-parts z in
    lt_by (Is-mul X Z) (Is-mul Y Z) (product x.top (pos x.bottom) y.top (pos y.bottom) z.top (pos z.bottom) (above z) (positive z p) h.cross)
  where
    positive : (z : Fraction) → whole (pos 0) <ℚ z → pos 0 <ℤ z.top
    positive z h = let k = lt_of (Is-over (pos 0) 1 (omega arith)) (Is-parts z) h in omega (arith, ints)

    product : (a p b q c r : ℤ) → pos 0 <ℤ r → pos 0 <ℤ c → (a *ℤ q) <ℤ (b *ℤ p) → ((a *ℤ c) *ℤ (q *ℤ r)) <ℤ ((b *ℤ c) *ℤ (p *ℤ r))
    product a p b q c r R C h =
        let h' = simp products at (*ℤ-lt _ _ (c *ℤ r) h (*ℤ-pos c r C R)) in
        simp products (omega (arith, linear))
