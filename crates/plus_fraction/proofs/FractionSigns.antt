-- Quotients and signs.
use Rattle.std.proofs.Common.{◌≡◌, zero, suc, ◌*◌, ◌<◌, [], ◌∷◌, arith, sym, ◌∙◌, ap, refl, subst, ℤ, pos, negsuc, neg_ℤ, ◌*ℤ◌, ◌<ℤ◌, unsigned_abs, inl, inr, mul-pos, int_cmp}
use Rattle.std.proofs.lemmas.Int.{ints, by_lt_z}
use Rattle.plus_fraction.specs.Fraction.{Fraction, compared, whole, ◌+ℚ◌, ◌-ℚ◌, ◌*ℚ◌, ◌/ℚ◌, neg_ℚ, ◌<ℚ◌, sign_of, over}
use Rattle.plus_fraction.proofs.IntRing.{products, linear, *ℤ-pos, *ℤ-lt}
use Rattle.plus_fraction.proofs.FractionBase.{Is, Is-parts, same, of_Is}
use Rattle.plus_fraction.proofs.FractionLaws.{Is-over, Is-mul, Is-rebase, *ℚ_comm, *ℚ_assoc}
use Rattle.plus_fraction.proofs.FractionOrder.{lt_by, <ℚ_irrefl, <ℚ_trans, <ℚ_or, +ℚ-lt, *ℚ-lt}
use Rattle.plus_fraction.proofs.FractionRing.{ringℚ, Is-whole, zero-*ℚ, one-*ℚ, *ℚ-zero}
use Rattle.plus_fraction.proofs.Ring.{var, num, ◌⊕◌, ◌⊖◌, minus}
use Rattle.plus_fraction.proofs.FractionLinear.{common2, commons, nums, lt_num, num_lt, num_eq, num as numerator}
use Rattle.plus_fraction.specs.Gcd.{gcd, gcd_within}

-- ---- quotients
sign-abs : (t : ℤ) → sign_of t *ℤ t ≡ pos (unsigned_abs t)
sign-abs (pos n) = omega (arith, ints)
sign-abs (negsuc n) = omega (arith, ints)

pub abs_above : (y : Fraction) → (y ≡ whole (pos 0) → ⊥) → 0 < unsigned_abs y.top
abs_above y n = split y.top refl
  where
    split : (t : ℤ) → y.top ≡ t → 0 < unsigned_abs t
    split (pos zero) e = absurd (n (same (Is-parts y) (Is-whole (pos 0)) (rw e (omega (arith, ints)))))
    split (pos (suc k)) e = omega arith
    split (negsuc k) e = omega arith

pub /ℚ-mul : (x y : Fraction) → (y ≡ whole (pos 0) → ⊥) → (x /ℚ y) *ℚ y ≡ x
unfolding ◌/ℚ◌
/ℚ-mul x y n =
    same (Is-mul (Is-over (x.top *ℤ pos y.bottom *ℤ sign_of y.top) (x.bottom * unsigned_abs y.top) (mul-pos x.positive (abs_above y n))) (Is-parts y)) (Is-parts x)
    (undone x.top (pos x.bottom) y.top (pos y.bottom) (sign_of y.top) (pos (unsigned_abs y.top)) (sign-abs y.top))
  where
    undone : (a p b q s k : ℤ) → s *ℤ b ≡ k → ((a *ℤ q *ℤ s) *ℤ b) *ℤ p ≡ a *ℤ ((p *ℤ k) *ℤ q)
    undone a p b q s k e = let e' = simp products at (ap (λ x. x *ℤ (a *ℤ (q *ℤ p))) e) in simp products (omega (arith, linear))

-- a factor that is not 0 cancels
pub *ℚ_cancel : (m x y : Fraction) → (m ≡ whole (pos 0) → ⊥) → m *ℚ x ≡ m *ℚ y → x ≡ y
*ℚ_cancel m x y n e = sym (undone x) ∙ ap (λ z. i *ℚ z) e ∙ undone y
  where
    i : Fraction
    i = whole (pos 1) /ℚ m

    undone : (z : Fraction) → i *ℚ (m *ℚ z) ≡ z
    undone z = sym (*ℚ_assoc i m z) ∙ ap (λ w. w *ℚ z) (/ℚ-mul (whole (pos 1)) m n) ∙ one-*ℚ z

-- a quotient is told by its product with the divisor
pub /ℚ_unique : (x y z : Fraction) → (y ≡ whole (pos 0) → ⊥) → z *ℚ y ≡ x → z ≡ x /ℚ y
/ℚ_unique x y z n e = *ℚ_cancel y z (x /ℚ y) n (*ℚ_comm y z ∙ e ∙ sym (/ℚ-mul x y n) ∙ *ℚ_comm _ y)

pub zero-/ℚ : (y : Fraction) → (y ≡ whole (pos 0) → ⊥) → whole (pos 0) /ℚ y ≡ whole (pos 0)
zero-/ℚ y n = sym (/ℚ_unique (whole (pos 0)) y (whole (pos 0)) n (zero-*ℚ y))

pub *ℚ-/ℚ : (x y : Fraction) → (y ≡ whole (pos 0) → ⊥) → (x *ℚ y) /ℚ y ≡ x
*ℚ-/ℚ x y n = sym (/ℚ_unique (x *ℚ y) y x n refl)

-- ---- signs
pub lt_sub : (x y : Fraction) → x <ℚ y → whole (pos 0) <ℚ y -ℚ x
lt_sub x y h =
    subst (λ z. z <ℚ y -ℚ x) (ringℚ (x ∷ []) (var 0 ⊖ var 0) (num (pos 0)) refl)
    (subst (λ z. x -ℚ x <ℚ z) (ringℚ (x ∷ y ∷ []) (var 1 ⊕ minus (var 0)) (var 1 ⊖ var 0) refl)
    (subst (λ z. z <ℚ y +ℚ neg_ℚ x) (ringℚ (x ∷ []) (var 0 ⊕ minus (var 0)) (var 0 ⊖ var 0) refl) (+ℚ-lt x y (neg_ℚ x) h)))

pub lt_of_sub : (x y : Fraction) → whole (pos 0) <ℚ y -ℚ x → x <ℚ y
lt_of_sub x y h =
    subst (λ z. z <ℚ y) (ringℚ (x ∷ []) (num (pos 0) ⊕ var 0) (var 0) refl)
    (subst (λ z. whole (pos 0) +ℚ x <ℚ z) (ringℚ (x ∷ y ∷ []) ((var 1 ⊖ var 0) ⊕ var 0) (var 1) refl) (+ℚ-lt _ _ x h))

-- a product with a factor above 0 that is not above 0
pub below_cancel : (m x y : Fraction) → whole (pos 0) <ℚ m → m *ℚ x <ℚ m *ℚ y → x <ℚ y
below_cancel m x y p h = elim (<ℚ_or x y) [
  | inl k ↦ k
  | inr o ↦ elim o [
    | inl e ↦ absurd (<ℚ_irrefl _ (subst (λ z. m *ℚ x <ℚ m *ℚ z) (sym e) h))
    | inr k ↦ absurd (<ℚ_irrefl _ (<ℚ_trans _ _ _ h (subst (λ z. z <ℚ m *ℚ x) (*ℚ_comm y m) (subst (λ z. y *ℚ m <ℚ z) (*ℚ_comm x m) (*ℚ-lt y x m k p)))))
  ]
]

-- ---- a quotient on cross products
nonzero_by : {y : Fraction} {m e : ℤ} → Is y m e → (m ≡ pos 0 → ⊥) → y ≡ whole (pos 0) → ⊥
nonzero_by {y} {m} {e} q n z =
    let k = of_Is (subst (λ (x : Fraction). Is x m e) z q) (Is-whole (pos 0)) in
    n (zero_of m e k)
  where
    zero_of : (m e : ℤ) → m *ℤ pos 1 ≡ pos 0 *ℤ e → m ≡ pos 0
    zero_of m e k = let k' = simp products at k in omega (arith, linear)

pub Is-div : {x y : Fraction} {n d m e : ℤ} → Is x n d → Is y m e → pos 0 <ℤ m → Is (x /ℚ y) (n *ℤ e) (d *ℤ m)
Is-div {x} {y} {n} {d} {m} {e} p q h =
    let z : Fraction = x /ℚ y in
    let k = of_Is (subst (λ (w : Fraction). Is w (z.top *ℤ m) (pos z.bottom *ℤ e)) (/ℚ-mul x y (nonzero_by q (λ o. omega (arith, ints)))) (Is-mul (Is-parts z) q)) p in
    Is-rebase _ _ (Is-parts z) (*ℤ-pos d m p.above h) (moved z.top m d n (pos z.bottom) e k)
  where
    moved : (N m d n D e : ℤ) → (N *ℤ m) *ℤ d ≡ n *ℤ (D *ℤ e) → N *ℤ (d *ℤ m) ≡ (n *ℤ e) *ℤ D
    moved N m d n D e k = let k' = simp products at k in simp products (omega (arith, linear))

pub Is-div_below : {x y : Fraction} {n d m e : ℤ} → Is x n d → Is y m e → pos 0 <ℤ neg_ℤ m → Is (x /ℚ y) (neg_ℤ n *ℤ e) (d *ℤ neg_ℤ m)
Is-div_below {x} {y} {n} {d} {m} {e} p q h =
    let z : Fraction = x /ℚ y in
    let k = of_Is (subst (λ (w : Fraction). Is w (z.top *ℤ m) (pos z.bottom *ℤ e)) (/ℚ-mul x y (nonzero_by q (λ o. omega (arith, ints)))) (Is-mul (Is-parts z) q)) p in
    Is-rebase _ _ (Is-parts z) (*ℤ-pos d (neg_ℤ m) p.above h) (moved z.top m d n (pos z.bottom) e k)
  where
    moved : (N m d n D e : ℤ) → (N *ℤ m) *ℤ d ≡ n *ℤ (D *ℤ e) → N *ℤ (d *ℤ neg_ℤ m) ≡ (neg_ℤ n *ℤ e) *ℤ D
    moved N m d n D e k = let k' = simp products at k in simp products (omega (arith, linear))

-- ---- the test, on other parts
pub compared_by : {x y : Fraction} {n m : ℤ} (d : ℤ) → Is x n d → Is y m d → compared x y ≡ int_cmp n m
unfolding compared
compared_by {x} {y} {n} {m} d p q = by_lt_z n m
    (λ h. less _ _ n m h (lt_by p q (*ℤ-lt n m d h p.above)).cross)
    (λ k. by_lt_z m n (λ h. greater _ _ n m h (lt_by q p (*ℤ-lt m n d h p.above)).cross)
    (λ l. let e : n ≡ m = omega (arith, ints) in equal x y n m e (same p q (ap (λ z. z *ℤ d) e))))
  where
    less : (a b n m : ℤ) → n <ℤ m → a <ℤ b → int_cmp a b ≡ int_cmp n m
    less a b n m h k = grind (arith, ints)

    greater : (a b n m : ℤ) → m <ℤ n → b <ℤ a → int_cmp a b ≡ int_cmp n m
    greater a b n m h k = grind (arith, ints)

    equal : (x y : Fraction) (n m : ℤ) → n ≡ m → x ≡ y → int_cmp (x.top *ℤ pos y.bottom) (y.top *ℤ pos x.bottom) ≡ int_cmp n m
    equal x y n m h k = both (x.top *ℤ pos y.bottom) (y.top *ℤ pos x.bottom) n m h (subst (λ (z : Fraction). x.top *ℤ pos z.bottom ≡ z.top *ℤ pos x.bottom) k refl)
      where
        both : (a b n m : ℤ) → n ≡ m → a ≡ b → int_cmp a b ≡ int_cmp n m
        both a b n m h k = grind (arith, ints)

-- ---- 0
pub zero_by_top : (x : Fraction) → x.top ≡ pos 0 → x ≡ whole (pos 0)
zero_by_top x e = same (Is-parts x) (Is-whole (pos 0)) (rw e (omega (arith, ints)))

pub top_of_zero : (x : Fraction) → x ≡ whole (pos 0) → x.top ≡ pos 0
unfolding over gcd gcd_within
top_of_zero x e = ap (λ (q : Fraction). q.top) e

pub zero_not_one : whole (pos 0) ≡ whole (pos 1) → ⊥
zero_not_one e = let k = of_Is (subst (λ (x : Fraction). Is x (pos 0) (pos 1)) e (Is-whole (pos 0))) (Is-whole (pos 1)) in omega (arith, ints)

pub zero_of_product : (m x : Fraction) → m *ℚ x ≡ whole (pos 0) → (m ≡ whole (pos 0) → ⊥) → x ≡ whole (pos 0)
zero_of_product m x e n = *ℚ_cancel m x (whole (pos 0)) n (e ∙ sym (*ℚ-zero m))

-- ---- opposites
pub +ℚ-neg : (x : Fraction) → x +ℚ neg_ℚ x ≡ whole (pos 0)
+ℚ-neg x = ringℚ (x ∷ []) (var 0 ⊕ minus (var 0)) (num (pos 0)) refl

pub neg_above : (x : Fraction) → whole (pos 0) <ℚ x → neg_ℚ x <ℚ whole (pos 0)
neg_above x h = common2 (neg_ℚ x <ℚ whole (pos 0)) x x (λ D d X Y.
    let h' = simp nums at (lt_num D _ _ (search commons) (search commons) h) in
    num_lt D _ _ (search commons) (search commons) (simp nums (omega (arith, linear))))

pub neg_below : (x : Fraction) → x <ℚ whole (pos 0) → whole (pos 0) <ℚ neg_ℚ x
neg_below x h = common2 (whole (pos 0) <ℚ neg_ℚ x) x x (λ D d X Y.
    let h' = simp nums at (lt_num D _ _ (search commons) (search commons) h) in
    num_lt D _ _ (search commons) (search commons) (simp nums (omega (arith, linear))))

pub neg_neg : (x : Fraction) → neg_ℚ (neg_ℚ x) ≡ x
neg_neg x = ringℚ (x ∷ []) (minus (minus (var 0))) (var 0) refl

pub neg_zero : neg_ℚ (whole (pos 0)) ≡ whole (pos 0)
neg_zero = ringℚ [] (minus (num (pos 0))) (num (pos 0)) refl

-- a factor of a product above 0
pub above_of_product : (m z : Fraction) → whole (pos 0) <ℚ z → whole (pos 0) <ℚ m *ℚ z → whole (pos 0) <ℚ m
above_of_product m z p h = elim (<ℚ_or (whole (pos 0)) m) [
  | inl k ↦ k
  | inr o ↦ absurd (elim o [
    | inl e ↦ <ℚ_irrefl (whole (pos 0)) (subst (λ y. whole (pos 0) <ℚ y) (zero-*ℚ z) (subst (λ y. whole (pos 0) <ℚ y *ℚ z) (sym e) h))
    | inr k ↦ <ℚ_irrefl (whole (pos 0)) (<ℚ_trans _ _ _ h (subst (λ y. m *ℚ z <ℚ y) (zero-*ℚ z) (*ℚ-lt m (whole (pos 0)) z k p)))
  ])
]

-- ---- an order or an equation by the difference
pub below_of_difference : (y z : Fraction) → y -ℚ z <ℚ whole (pos 0) → y <ℚ z
below_of_difference y z h = common2 (y <ℚ z) y z (λ D d Y Z.
    let h' = simp nums at (lt_num D _ _ (search commons) (search commons) h) in
    num_lt D _ _ Y Z (omega (arith, linear)))

pub difference_below : (y z : Fraction) → y <ℚ z → y -ℚ z <ℚ whole (pos 0)
difference_below y z h = common2 (y -ℚ z <ℚ whole (pos 0)) y z (λ D d Y Z.
    let h' = lt_num D _ _ Y Z h in
    num_lt D _ _ (search commons) (search commons) (simp nums (omega (arith, linear))))

pub difference_above : (y z : Fraction) → z <ℚ y → whole (pos 0) <ℚ y -ℚ z
difference_above y z h = common2 (whole (pos 0) <ℚ y -ℚ z) y z (λ D d Y Z.
    let h' = lt_num D _ _ Z Y h in
    num_lt D _ _ (search commons) (search commons) (simp nums (omega (arith, linear))))

pub equal_of_difference : (y z : Fraction) → y -ℚ z ≡ whole (pos 0) → y ≡ z
equal_of_difference y z e = common2 (y ≡ z) y z (λ D d Y Z.
    let e' = simp nums at (ap (numerator D) e) in
    num_eq D _ _ Y Z (omega (arith, linear)))

pub difference_none : (y z : Fraction) → y ≡ z → y -ℚ z ≡ whole (pos 0)
difference_none y z e = subst (λ w. y -ℚ w ≡ whole (pos 0)) e (ringℚ (y ∷ []) (var 0 ⊖ var 0) (num (pos 0)) refl)
