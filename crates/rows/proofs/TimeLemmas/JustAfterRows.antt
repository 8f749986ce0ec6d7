-- What holds just after, by values and slopes; and of a square, by its values alone.
use Rattle.std.proofs.Common.{◌≡◌, true, false, [], ◌∷◌, refl, ap, sym, subst, ◌∙◌, pos, Greater}
use Rattle.plus_fraction.specs.Gcd.{gcd, gcd_within}
use Rattle.plus_fraction.specs.Fraction.{Fraction, over, ◌+ℚ◌, ◌-ℚ◌, ◌*ℚ◌, ◌/ℚ◌, ◌<ℚ◌, compared}
use Rattle.plus_fraction.proofs.FractionOrder.{*ℚ-lt}
use Rattle.plus_fraction.proofs.FractionAtMost.{middle, middle_between}
use Rattle.plus_fraction.proofs.Compared.{greater-compared}
use Rattle.plus_fraction.proofs.JustAfter.{one_above}
use Rattle.plus_fraction.proofs.Ring.{var, num, ◌⊕◌, ◌⊗◌}
use Rattle.plus_fraction.proofs.FractionRing.{ringℚ}
use Rattle.plus_model.specs.Terms.{Product, Test, Same, Above, Condition}
use Rattle.plus_model.specs.Value.{passes, holds}
use Rattle.plus_model.specs.Running.{moved}
use Rattle.plus_model.specs.Piece.{IsStraight, after}
use Rattle.plus_model.proofs.Truth.{after_tells}
use Rattle.rows.specs.Model.Rises.{n, values, rises}
use Rattle.rows.specs.Time.JustAfter.{at_five, x_rises, Soon, x, is, JoinedRows, SideRows, SquareRow}

soon : (c : Condition) → IsStraight c at_five x_rises → after c at_five x_rises ≡ true → Soon c
soon c w e = (after_tells c at_five x_rises w).1 e

never : (c : Condition) → IsStraight c at_five x_rises → after c at_five x_rises ≡ false → Soon c → ⊥
never c w e j = let t = (after_tells c at_five x_rises w).0 j in cc (e, t)

pub joined_rows : JoinedRows
unfolding over gcd gcd_within compared ◌+ℚ◌
joined_rows = record {
  both = soon _ (tt, (tt, tt)) refl;
  both_now = refl;
  not_both = never _ (tt, (tt, tt)) refl;
  either = soon _ (tt, (tt, tt)) refl;
  neither_now = refl;
  not_either = never _ (tt, (tt, tt)) refl;
  atom = soon _ tt refl;
  not_atom = never _ tt refl;
  absent = soon _ tt refl;
  not_absent = never _ tt refl;
  empty_and = soon _ tt refl;
  empty_or = never _ tt refl;
}

pub side_rows : SideRows
unfolding over gcd gcd_within compared ◌+ℚ◌ ◌-ℚ◌ ◌*ℚ◌ ◌/ℚ◌
side_rows = record {
  undefined = never _ tt refl;
  not_undefined = soon _ tt refl;
  right = never _ tt refl;
  not_right = soon _ tt refl;
  by_zero = never _ tt refl;
  not_by_zero = soon _ tt refl;
  product = soon _ tt refl;
  product_left = never _ tt refl;
  product_falls = soon _ tt refl;
  quotient = soon _ tt refl;
  quotient_same = never _ tt refl;
}

-- ---- a square
abbrev risen : Fraction → Fraction
risen t = n 0 +ℚ n 1 *ℚ t

square_above : (t : Fraction) → n 0 <ℚ t → n 0 <ℚ risen t *ℚ risen t
square_above t h =
    subst (λ a. a <ℚ risen t *ℚ risen t) (ringℚ (t ∷ []) (num (pos 0) ⊗ var 0) (num (pos 0)) refl)
    (subst (λ b. n 0 *ℚ t <ℚ b) (ringℚ (t ∷ []) (var 0 ⊗ var 0) ((num (pos 0) ⊕ num (pos 1) ⊗ var 0) ⊗ (num (pos 0) ⊕ num (pos 1) ⊗ var 0)) refl)
    (*ℚ-lt (n 0) t t h h))

square_truth : (test : Test) (t : Fraction) → n 0 <ℚ t → holds (is (Product x x) test (n 0)) (moved (values 0 0) rises t) ≡ passes test Greater
unfolding moved
square_truth test t h = ap (passes test) (greater-compared (risen t *ℚ risen t) (n 0) (square_above t h))

pub square_row : SquareRow
unfolding over gcd gcd_within compared ◌+ℚ◌ ◌*ℚ◌
square_row = record {
  crooked = λ w. w;
  now = refl;
  above = record { until = n 1; above = one_above; inside = λ t p q. square_truth Above t p };
  not_same = λ j. let b = middle_between (n 0) j.until j.above in
      let f : false ≡ true = sym (square_truth Same (middle (n 0) j.until) b.0) ∙ j.inside (middle (n 0) j.until) b.0 b.1 in cc f;
}
