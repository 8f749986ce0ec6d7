-- The order of moments, and the least of a bound and later literals.
use Rattle.std.proofs.Common.{◌≡◌, arith, pos, true, false, Bool, List, [], ◌∷◌, ◌&&◌, if◌then◌else◌, refl}
use Rattle.plus_fraction.specs.Fraction.{Fraction, whole, ◌-ℚ◌, ◌<ℚ◌, ◌≤ℚ◌, compared}
use Rattle.plus_fraction.proofs.IntRing.{linear}
use Rattle.plus_fraction.proofs.FractionLinear.{common2, common3, commons, nums, lt_num, le_num, num_lt, num_le}
use Rattle.std.specs.declared.cmp.Ordering.{Ordering}
use Rattle.std.specs.declared.cmp.Ordering.TheVariants.{Less, Equal, Greater}
use Rattle.plus_fraction.proofs.Compared.{compared-less}
use Rattle.plus_model.specs.Terms.{Timed, Below}
use Rattle.plus_model.specs.Value.{passes}
use Rattle.plus_model.specs.Trajectory.{least, is_below}

pub not_below : (x y : Fraction) → x <ℚ y → y ≤ℚ x → ⊥
not_below x y h k = let h' = h.cross in let k' = k.cross in omega (arith, linear)

pub ≤ℚ_refl : (x : Fraction) → x ≤ℚ x
≤ℚ_refl x = record { cross = omega (arith, linear) }

pub <ℚ-≤ℚ : (x y : Fraction) → x <ℚ y → x ≤ℚ y
<ℚ-≤ℚ x y h = let k = h.cross in record { cross = omega (arith, linear) }

pub ≤ℚ_trans : (x y z : Fraction) → x ≤ℚ y → y ≤ℚ z → x ≤ℚ z
≤ℚ_trans x y z h k = common3 (x ≤ℚ z) x y z (λ D d X Y Z.
    let h' = le_num D _ _ X Y h in
    let k' = le_num D _ _ Y Z k in
    num_le D _ _ X Z (omega (arith, linear)))

pub ≤ℚ-<ℚ_trans : (x y z : Fraction) → x ≤ℚ y → y <ℚ z → x <ℚ z
≤ℚ-<ℚ_trans x y z h k = common3 (x <ℚ z) x y z (λ D d X Y Z.
    let h' = le_num D _ _ X Y h in
    let k' = lt_num D _ _ Y Z k in
    num_lt D _ _ X Z (omega (arith, linear)))

pub -ℚ-lt : (x y z : Fraction) → x <ℚ y → x -ℚ z <ℚ y -ℚ z
-ℚ-lt x y z h = common3 (x -ℚ z <ℚ y -ℚ z) x y z (λ D d X Y Z.
    let h' = lt_num D _ _ X Y h in
    num_lt D _ _ (search commons) (search commons) (simp nums (omega (arith, linear))))

pub sub_above : (x y : Fraction) → x <ℚ y → whole (pos 0) <ℚ y -ℚ x
sub_above x y h = common2 (whole (pos 0) <ℚ y -ℚ x) x y (λ D d X Y.
    let h' = lt_num D _ _ X Y h in
    num_lt D _ _ (search commons) (search commons) (simp nums (omega (arith, linear))))

-- ---- the least of a bound and later literals
pub from_below : (x y : Fraction) → is_below x y ≡ true → x <ℚ y
from_below x y e = go (compared x y) refl e
  where
    go : (o : Ordering) → compared x y ≡ o → passes Below o ≡ true → x <ℚ y
    go Less c e = compared-less x y c
    go Equal c e = cc
    go Greater c e = cc

pub least_within : (time bound : Fraction) (ls : List Timed) → least time bound ls ≤ℚ bound
least_within time bound [] = ≤ℚ_refl bound
least_within time bound (l ∷ ls) = go (is_below time l.time) (is_below l.time bound) refl (least_within time l.time ls) (least_within time bound ls)
  where
    go : (p q : Bool) → is_below l.time bound ≡ q → least time l.time ls ≤ℚ l.time → least time bound ls ≤ℚ bound → (if p && q then least time l.time ls else least time bound ls) ≤ℚ bound
    go true true e h k = ≤ℚ_trans _ _ _ h (<ℚ-≤ℚ _ _ (from_below _ _ e))
    go true false e h k = k
    go false q e h k = k

-- the least is not below the present time, where the bound is not
pub least_above : (time bound : Fraction) (ls : List Timed) → time ≤ℚ bound → time ≤ℚ least time bound ls
least_above time bound [] h = h
least_above time bound (l ∷ ls) h =
    go (is_below time l.time) (is_below l.time bound) refl (least_above time l.time ls) (least_above time bound ls h)
  where
    go : (p q : Bool) → is_below time l.time ≡ p → (time ≤ℚ l.time → time ≤ℚ least time l.time ls) → time ≤ℚ least time bound ls → time ≤ℚ (if p && q then least time l.time ls else least time bound ls)
    go true true e f k = f (<ℚ-≤ℚ _ _ (from_below _ _ e))
    go true false e f k = k
    go false q e f k = k
