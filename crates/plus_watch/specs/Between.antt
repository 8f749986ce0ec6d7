-- Roots strictly between two bounds, in order, each once.
use Rattle.std.specs.Prelude.{List, [], ◌∷◌, if◌then◌else◌}
use Rattle.plus_fraction.specs.Fraction.{Fraction}
use Rattle.plus_model.specs.Trajectory.{is_below}
use Rattle.plus_stretch.specs.Crossings.{rising_below}

-- those above a bound
abbrev pub above : Fraction → List Fraction → List Fraction
above low [] = []
above low (x ∷ xs) = if is_below low x then x ∷ above low xs else above low xs

-- those strictly between two bounds, in order, each once
abbrev pub rising_between : Fraction → Fraction → List Fraction → List Fraction
rising_between low high xs = above low (rising_below high xs)
