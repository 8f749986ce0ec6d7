-- The rows of events that fire exactly where they hold, by computation.
use Rattle.std.proofs.Common.{◌≡◌, [], ◌∷◌, refl, pos, arith}
use Rattle.std.proofs.lemmas.Int.{ints}
use Rattle.plus_fraction.specs.Gcd.{gcd, gcd_within}
use Rattle.plus_fraction.specs.Fraction.{over, whole, ◌+ℚ◌, ◌-ℚ◌, ◌*ℚ◌, compared}
use Rattle.plus_model.specs.Firing.{firing}
use Rattle.plus_model.specs.Running.{rates, moved}
use Rattle.plus_model.specs.History.{Enter, Round, Act, Run}
use Rattle.plus_model.specs.Trajectory.{literals}
use Rattle.rows.specs.Accepted.Fires.{calm, second_on, first_on, FiresRows}

pub fires_rows : FiresRows
unfolding firing literals rates moved over gcd gcd_within compared ◌+ℚ◌ ◌-ℚ◌ ◌*ℚ◌
fires_rows = record {
  none_is_left = λ h. let f : 0 ∷ [] ≡ [] = h.none_left in cc f;
  all_fire = λ h. let f : 0 ∷ [] ≡ 0 ∷ 1 ∷ [] = (h.each [] (Round (0 ∷ []) second_on) (Round (1 ∷ []) calm ∷ []) refl).0 in cc f;
  no_other = λ h. let f : 0 ∷ 1 ∷ [] ≡ 0 ∷ [] = (h.each [] (Round (0 ∷ 1 ∷ []) calm) [] refl).0 in cc f;
  some_fire = λ h. (h.each [] (Round [] calm) [] refl).1 refl;
  before_action = λ h. let f : 0 ∷ [] ≡ [] = h.each [] (Act 0 first_on) (Round (0 ∷ []) calm ∷ []) refl in cc f;
  before_stretch = λ h. let f : 0 ∷ [] ≡ [] = h.each [] (Run []) (Round (0 ∷ []) calm ∷ []) refl in cc f;
  inside_stretch = λ h.
      let f : 0 ∷ [] ≡ [] = h.each (Run (0 ∷ []) ∷ []) (Enter (whole (pos 10)) _ _) [] refl (whole (pos 3))
      (record { cross = omega (arith, ints) }) (record { cross = omega (arith, ints) }) (0 ∷ []) ((whole (pos 0) +ℚ whole (pos 2)) ∷ []) refl refl in
      cc f;
}
