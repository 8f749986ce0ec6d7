-- What holds just after x = 5, by values and slopes.
use Rattle.std.proofs.Common.{◌≡◌, true, false, List, refl}
use Rattle.plus_fraction.specs.Gcd.{gcd, gcd_within}
use Rattle.plus_fraction.specs.Fraction.{Fraction, over, ◌+ℚ◌, compared}
use Rattle.plus_model.specs.Terms.{Condition}
use Rattle.plus_model.specs.Piece.{IsStraight, after}
use Rattle.plus_model.proofs.Truth.{after_tells}
use Rattle.rows.specs.Model.Rises.{values, SoonAfter, AfterRows}

soon : (rs : List Fraction) (c : Condition) → IsStraight c (values 5 0) rs → after c (values 5 0) rs ≡ true → SoonAfter rs c
soon rs c w e = (after_tells c (values 5 0) rs w).1 e

never : (rs : List Fraction) (c : Condition) → IsStraight c (values 5 0) rs → after c (values 5 0) rs ≡ false → SoonAfter rs c → ⊥
never rs c w e j = let t = (after_tells c (values 5 0) rs w).0 j in cc (e, t)

pub after_rows : AfterRows
unfolding over gcd gcd_within compared ◌+ℚ◌
after_rows = record {
  rising_above = soon _ _ tt refl;
  rising_at_least = soon _ _ tt refl;
  rising_same = never _ _ tt refl;
  rising_at_most = never _ _ tt refl;
  rising_below = never _ _ tt refl;
  falling_above = never _ _ tt refl;
  falling_at_least = never _ _ tt refl;
  falling_same = never _ _ tt refl;
  falling_at_most = soon _ _ tt refl;
  falling_below = soon _ _ tt refl;
  resting_above = never _ _ tt refl;
  resting_at_least = soon _ _ tt refl;
  resting_same = soon _ _ tt refl;
  resting_at_most = soon _ _ tt refl;
  resting_below = never _ _ tt refl;
  rising_not_same = soon _ _ tt refl;
  not_yet = never _ _ tt refl;
  still = soon _ _ tt refl;
  sides = soon _ _ tt refl;
}
