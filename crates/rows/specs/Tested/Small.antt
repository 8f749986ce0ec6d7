-- A type of numbers for rows: those up to 9.
use Rattle.plus_fraction.specs.Fraction.{Fraction, ◌≤ℚ◌}
use Rattle.rows.specs.Model.Rises.{n}

abbrev pub Small : Fraction → Type 0
Small x = x ≤ℚ n 9
