-- Linear arithmetic over fractions: over a common denominator D a fraction x is the whole number `num D x`, and a sum, a difference, an order or an equation of fractions is that of their numerators.
use Rattle.std.proofs.Common.{◌≡◌, ℕ, ◌*◌, ◌/◌, ◌<◌, arith, sym, ◌∙◌, ap, subst, ℤ, pos, ◌+ℤ◌, ◌-ℤ◌, ◌*ℤ◌, ◌<ℤ◌, ◌≤ℤ◌, neg_ℤ, unsigned_abs, mul-pos}
use Rattle.std.proofs.lemmas.Int.{ints}
use Rattle.std.proofs.Math.Nat.{div-mul_cancel, dvd-mul_left, dvd-mul_right, dvd_trans}
use Prim.Native.Nat.{◌∣◌}
use Rattle.plus_fraction.specs.GcdLemmas.{dvd_of_coprime}
use Rattle.plus_fraction.specs.Fraction.{Fraction, whole, ◌+ℚ◌, ◌-ℚ◌, neg_ℚ, ◌<ℚ◌, ◌≤ℚ◌}
use Rattle.plus_fraction.proofs.IntRing.{products, linear, cancel_eq, cancel_lt, cancel_le, *ℤ-lt, *ℤ-le, unsigned_abs-*ℤ}
use Rattle.plus_fraction.proofs.FractionBase.{Is, Is-parts, same, above}
use Rattle.plus_fraction.proofs.FractionLaws.{Is-over, Is-add, Is-sub, Is-neg, Is-rebase}
use Rattle.plus_fraction.proofs.FractionOrder.{lt_by, le_by, lt_of, le_of}

-- the numerator of x over D
unfoldable pub num : ℕ → Fraction → ℤ
num D x = x.top *ℤ pos (D / x.bottom)

-- D is a multiple of the denominator of x
pub record IsCommon (D : ℕ) (x : Fraction) : Type 0 where
  pub above : 0 < D
  pub divides : x.bottom ∣ D

pub Is-num : (D : ℕ) (x : Fraction) → IsCommon D x → Is x (num D x) (pos D)
unfolding num
Is-num D x h = record {
  above = let p = h.above in omega (arith, ints);
  cross = moved x.top (pos x.bottom) (pos (D / x.bottom)) (pos D) (ap pos (div-mul_cancel x.bottom h.divides));
}
  where
    moved : (t b q d : ℤ) → q *ℤ b ≡ d → t *ℤ d ≡ t *ℤ q *ℤ b
    moved t b q d e = let e' = simp products at (ap (λ x. x *ℤ t) e) in simp products (omega (arith, linear))

-- x is n/D for some n, so D is a multiple of its denominator
pub IsCommon-by : (D : ℕ) (x : Fraction) (n : ℤ) → Is x n (pos D) → IsCommon D x
IsCommon-by D x n h = record {
  above = let p = h.above in omega (arith, ints);
  divides = dvd_of_coprime (unsigned_abs x.top) x.bottom D x.reduced (let p = h.above in omega (arith, ints))
      (subst (λ (k : ℕ). x.bottom ∣ k) (sym (sym (unsigned_abs-*ℤ x.top D) ∙ ap unsigned_abs h.cross ∙ unsigned_abs-*ℤ n x.bottom)) (dvd-mul_left x.bottom (unsigned_abs n)));
}

pub num-by : (D : ℕ) (x : Fraction) (n : ℤ) → Is x n (pos D) → num D x ≡ n
num-by D x n h = cancel_eq (num D x) n (pos x.bottom) (above x) (sym (Is-num D x (IsCommon-by D x n h)).cross ∙ h.cross)

Is-sum : (D : ℕ) (x y : Fraction) → IsCommon D x → IsCommon D y → Is (x +ℚ y) (num D x +ℤ num D y) (pos D)
Is-sum D x y p q =
    let P = Is-num D x p in
    Is-rebase _ _ (Is-add P (Is-num D y q)) P.above (joined (num D x) (num D y) (pos D))
  where
    joined : (a b d : ℤ) → (a *ℤ d +ℤ b *ℤ d) *ℤ d ≡ (a +ℤ b) *ℤ (d *ℤ d)
    joined a b d = simp products (omega (arith, linear))

Is-difference : (D : ℕ) (x y : Fraction) → IsCommon D x → IsCommon D y → Is (x -ℚ y) (num D x -ℤ num D y) (pos D)
Is-difference D x y p q =
    let P = Is-num D x p in
    Is-rebase _ _ (Is-sub P (Is-num D y q)) P.above (joined (num D x) (num D y) (pos D))
  where
    joined : (a b d : ℤ) → (a *ℤ d -ℤ b *ℤ d) *ℤ d ≡ (a -ℤ b) *ℤ (d *ℤ d)
    joined a b d = simp products (omega (arith, linear))

pub IsCommon-add : (D : ℕ) (x y : Fraction) → IsCommon D x → IsCommon D y → IsCommon D (x +ℚ y)
IsCommon-add D x y p q = IsCommon-by D _ _ (Is-sum D x y p q)

pub IsCommon-sub : (D : ℕ) (x y : Fraction) → IsCommon D x → IsCommon D y → IsCommon D (x -ℚ y)
IsCommon-sub D x y p q = IsCommon-by D _ _ (Is-difference D x y p q)

pub IsCommon-neg : (D : ℕ) (x : Fraction) → IsCommon D x → IsCommon D (neg_ℚ x)
IsCommon-neg D x p = IsCommon-by D _ _ (Is-neg (Is-num D x p))

pub num-add : (D : ℕ) (x y : Fraction) → IsCommon D x → IsCommon D y → num D (x +ℚ y) ≡ num D x +ℤ num D y
num-add D x y p q = num-by D _ _ (Is-sum D x y p q)

pub num-sub : (D : ℕ) (x y : Fraction) → IsCommon D x → IsCommon D y → num D (x -ℚ y) ≡ num D x -ℤ num D y
num-sub D x y p q = num-by D _ _ (Is-difference D x y p q)

pub num-neg : (D : ℕ) (x : Fraction) → IsCommon D x → num D (neg_ℚ x) ≡ neg_ℤ (num D x)
num-neg D x p = num-by D _ _ (Is-neg (Is-num D x p))

Is-none : (D : ℕ) → 0 < D → Is (whole (pos 0)) (pos 0) (pos D)
Is-none D h = Is-rebase _ _ (Is-over (pos 0) 1 (omega arith)) (omega (arith, ints)) (omega (arith, ints))

pub IsCommon-zero : (D : ℕ) → 0 < D → IsCommon D (whole (pos 0))
IsCommon-zero D h = IsCommon-by D _ _ (Is-none D h)

pub num-zero : (D : ℕ) → 0 < D → num D (whole (pos 0)) ≡ pos 0
num-zero D h = num-by D _ _ (Is-none D h)

-- ---- from a hypothesis, and at the goal
pub lt_num : (D : ℕ) (x y : Fraction) → IsCommon D x → IsCommon D y → x <ℚ y → num D x <ℤ num D y
lt_num D x y p q h = let P = Is-num D x p in cancel_lt _ _ (pos D) P.above (lt_of P (Is-num D y q) h)

pub le_num : (D : ℕ) (x y : Fraction) → IsCommon D x → IsCommon D y → x ≤ℚ y → num D x ≤ℤ num D y
le_num D x y p q h = let P = Is-num D x p in cancel_le _ _ (pos D) P.above (le_of P (Is-num D y q) h)

pub num_lt : (D : ℕ) (x y : Fraction) → IsCommon D x → IsCommon D y → num D x <ℤ num D y → x <ℚ y
num_lt D x y p q h = let P = Is-num D x p in lt_by P (Is-num D y q) (*ℤ-lt _ _ (pos D) h P.above)

pub num_le : (D : ℕ) (x y : Fraction) → IsCommon D x → IsCommon D y → num D x ≤ℤ num D y → x ≤ℚ y
num_le D x y p q h = let P = Is-num D x p in le_by P (Is-num D y q) (*ℤ-le _ _ (pos D) h (let k = P.above in omega (arith, ints)))

pub num_eq : (D : ℕ) (x y : Fraction) → IsCommon D x → IsCommon D y → num D x ≡ num D y → x ≡ y
num_eq D x y p q e = same (Is-num D x p) (Is-num D y q) (ap (λ n. n *ℤ pos D) e)

-- ---- a common denominator
IsCommon-more : (D k : ℕ) (x : Fraction) → IsCommon D x → 0 < k → IsCommon (D * k) x
IsCommon-more D k x h p = record { above = mul-pos h.above p; divides = dvd_trans x.bottom h.divides (dvd-mul_right D k) }

pub common_one : (P : Type 0) (x : Fraction) → ((D : ℕ) → IsCommon D x → P) → P
common_one P x f = f x.bottom (IsCommon-by x.bottom x x.top (Is-parts x))

-- another fraction beside those that D serves
pub common_more : (P : Type 0) (D : ℕ) (x : Fraction) → 0 < D → ((k : ℕ) → 0 < k → IsCommon (D * k) x → P) → P
common_more P D x h f = f x.bottom x.positive (record { above = mul-pos h x.positive; divides = dvd-mul_left x.bottom D })

pub common2 : (P : Type 0) (x y : Fraction) → ((D : ℕ) → 0 < D → IsCommon D x → IsCommon D y → P) → P
common2 P x y f = common_one P x (λ D X. common_more P D y X.above (λ k h Y. f (D * k) Y.above (IsCommon-more D k x X h) Y))

pub common3 : (P : Type 0) (x y z : Fraction) → ((D : ℕ) → 0 < D → IsCommon D x → IsCommon D y → IsCommon D z → P) → P
common3 P x y z f = common2 P x y (λ D d X Y. common_more P D z d (λ k h Z. f (D * k) Z.above (IsCommon-more D k x X h) (IsCommon-more D k y Y h) Z))

pub common4 : (P : Type 0) (x y z w : Fraction) → ((D : ℕ) → 0 < D → IsCommon D x → IsCommon D y → IsCommon D z → IsCommon D w → P) → P
common4 P x y z w f = common3 P x y z (λ D d X Y Z. common_more P D w d (λ k h W. f (D * k) W.above (IsCommon-more D k x X h) (IsCommon-more D k y Y h) (IsCommon-more D k z Z h) W))

pub ruleset commons = (IsCommon-add, IsCommon-sub, IsCommon-neg, IsCommon-zero)

pub ruleset nums = (num-add, num-sub, num-neg, num-zero, commons)
