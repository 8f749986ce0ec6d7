-- The order `≤` of fractions, and a place between two of them.
use Rattle.std.proofs.Common.{◌≡◌, [], ◌∷◌, refl, pos, arith, subst, ◌∙◌, ap, ◌⊎◌, inl, inr}
use Rattle.plus_fraction.specs.Fraction.{Fraction, over, whole, ◌+ℚ◌, ◌*ℚ◌, ◌<ℚ◌, ◌≤ℚ◌}
use Rattle.plus_fraction.specs.Gcd.{gcd, gcd_within}
use Rattle.plus_fraction.proofs.IntRing.{linear}
use Rattle.plus_fraction.proofs.Ring.{var, num, ◌⊕◌, ◌⊗◌}
use Rattle.plus_fraction.proofs.FractionBase.{same_cross}
use Rattle.plus_fraction.proofs.FractionRing.{ringℚ}
use Rattle.plus_fraction.proofs.FractionOrder.{<ℚ_or, <ℚ_irrefl}
use Rattle.plus_fraction.proofs.FractionLinear.{common2, common3, lt_num, le_num, num_lt, num_le, num_eq, commons, nums, num as numerator}

pub ≤ℚ_or : (x y : Fraction) → (x ≤ℚ y) ⊎ (y <ℚ x)
≤ℚ_or x y = elim (<ℚ_or x y) [
  | inl h ↦ inl (let k = h.cross in record { cross = omega (arith, linear) })
  | inr o ↦ elim o [
    | inl e ↦ inl (subst (λ z. x ≤ℚ z) e (record { cross = omega (arith, linear) }))
    | inr h ↦ inr h
  ]
]

pub <ℚ-≤ℚ_trans : (x y z : Fraction) → x <ℚ y → y ≤ℚ z → x <ℚ z
<ℚ-≤ℚ_trans x y z h k = common3 (x <ℚ z) x y z (λ D d X Y Z.
    let h' = lt_num D _ _ X Y h in
    let k' = le_num D _ _ Y Z k in
    num_lt D _ _ X Z (omega (arith, linear)))

pub ≤ℚ_antisymm : (x y : Fraction) → x ≤ℚ y → y ≤ℚ x → x ≡ y
≤ℚ_antisymm x y h k = common2 (x ≡ y) x y (λ D d X Y.
    let h' = le_num D _ _ X Y h in
    let k' = le_num D _ _ Y X k in
    num_eq D _ _ X Y (omega (arith, linear)))

pub le_lt : (x y : Fraction) → x <ℚ y → x ≤ℚ y
le_lt x y h = let k = h.cross in record { cross = omega (arith, linear) }

pub ≤ℚ_refl : (x : Fraction) → x ≤ℚ x
≤ℚ_refl x = record { cross = omega (arith, linear) }

pub le_equal : (x y : Fraction) → x ≡ y → x ≤ℚ y
le_equal x y e = subst (λ z. x ≤ℚ z) e (≤ℚ_refl x)

pub ≤ℚ-<ℚ_trans : (x y z : Fraction) → x ≤ℚ y → y <ℚ z → x <ℚ z
≤ℚ-<ℚ_trans x y z h k = common3 (x <ℚ z) x y z (λ D d X Y Z.
    let h' = le_num D _ _ X Y h in
    let k' = lt_num D _ _ Y Z k in
    num_lt D _ _ X Z (omega (arith, linear)))

pub ≤ℚ_trans : (x y z : Fraction) → x ≤ℚ y → y ≤ℚ z → x ≤ℚ z
≤ℚ_trans x y z h k = common3 (x ≤ℚ z) x y z (λ D d X Y Z.
    let h' = le_num D _ _ X Y h in
    let k' = le_num D _ _ Y Z k in
    num_le D _ _ X Z (omega (arith, linear)))

-- not both
pub le_not_above : (x y : Fraction) → x ≤ℚ y → y <ℚ x → ⊥
le_not_above x y h k = <ℚ_irrefl _ (≤ℚ-<ℚ_trans _ _ _ h k)

pub le_by_not : (x y : Fraction) → (y <ℚ x → ⊥) → x ≤ℚ y
le_by_not x y n = elim (≤ℚ_or x y) [
  | inl h ↦ h
  | inr h ↦ absurd (n h)
]

pub le_cases : (x y : Fraction) → x ≤ℚ y → (x <ℚ y) ⊎ (x ≡ y)
le_cases x y h = elim (<ℚ_or x y) [
  | inl k ↦ inl k
  | inr o ↦ elim o [
    | inl e ↦ inr e
    | inr k ↦ absurd (le_not_above x y h k)
  ]
]

pub le_of_cases : (x y : Fraction) → (x <ℚ y) ⊎ (x ≡ y) → x ≤ℚ y
le_of_cases x y o = elim o [
  | inl h ↦ le_lt x y h
  | inr e ↦ le_equal x y e
]

pub +ℚ-le : (x y z : Fraction) → x ≤ℚ y → x +ℚ z ≤ℚ y +ℚ z
+ℚ-le x y z h = common3 (x +ℚ z ≤ℚ y +ℚ z) x y z (λ D d X Y Z.
    let h' = le_num D _ _ X Y h in
    num_le D _ _ (search commons) (search commons) (simp nums (omega (arith, linear))))

-- a sum of two that are not below 0
pub +ℚ-above : (x y : Fraction) → whole (pos 0) ≤ℚ x → whole (pos 0) ≤ℚ y → whole (pos 0) ≤ℚ x +ℚ y
+ℚ-above x y h k = common2 (whole (pos 0) ≤ℚ x +ℚ y) x y (λ D d X Y.
    let h' = simp nums at (le_num D _ _ (search commons) (search commons) h) in
    let k' = simp nums at (le_num D _ _ (search commons) (search commons) k) in
    num_le D _ _ (search commons) (search commons) (simp nums (omega (arith, linear))))

-- ---- a place between
abbrev pub half : Fraction
half = over (pos 1) 2

abbrev pub middle : Fraction → Fraction → Fraction
middle x y = (x +ℚ y) *ℚ half

two_halves : half +ℚ half ≡ whole (pos 1)
unfolding ◌+ℚ◌ over gcd gcd_within
two_halves = same_cross _ _ refl

halved : (z : Fraction) → z *ℚ half +ℚ z *ℚ half ≡ z
halved z = ringℚ (z ∷ half ∷ []) (var 0 ⊗ var 1 ⊕ var 0 ⊗ var 1) (var 0 ⊗ (var 1 ⊕ var 1)) refl ∙ ap (λ (h : Fraction). z *ℚ h) two_halves ∙ ringℚ (z ∷ []) (var 0 ⊗ num (pos 1)) (var 0) refl

pub middle_between : (x y : Fraction) → x <ℚ y → (x <ℚ middle x y) × (middle x y <ℚ y)
middle_between x y h =
    let e = halved (x +ℚ y) in
    common3 ((x <ℚ middle x y) × (middle x y <ℚ y)) x y (middle x y) (λ D d X Y M.
    let h' = lt_num D _ _ X Y h in
    let e' = simp nums at (ap (numerator D) e) in
    (num_lt D _ _ X M (omega (arith, linear)), num_lt D _ _ M Y (omega (arith, linear))))
