-- Numbers that do not fall, without those that come again and those that are not below a bound.
use Rattle.std.specs.Prelude.{Bool, List, [], ◌∷◌, ◌++◌, Option, Some, None, ◌&&◌, if◌then◌else◌}
use Rattle.plus_fraction.specs.Fraction.{Fraction, ◌≤ℚ◌}
use Rattle.plus_model.specs.Trajectory.{is_below}

-- from y on they do not fall
abbrev pub Ascends : Fraction → List Fraction → Type 0
Ascends y [] = Unit {0}
Ascends y (x ∷ xs) = (y ≤ℚ x) × Ascends x xs

-- x is below the bound and not the one before it
abbrev pub is_kept : Fraction → Option Fraction → Fraction → Bool
is_kept len None x = is_below x len
is_kept len (Some y) x = is_below y x && is_below x len

abbrev pub thinned : Fraction → Option Fraction → List Fraction → List Fraction
thinned len before [] = []
thinned len before (x ∷ xs) = (if is_kept len before x then x ∷ [] else []) ++ thinned len (Some x) xs
