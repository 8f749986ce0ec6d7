-- What holds just after 0.
use Rattle.plus_fraction.specs.Fraction.{Fraction, whole, ◌<ℚ◌}
use Rattle.std.specs.Prelude.{pos}

-- there is a fraction above 0 such that P holds at every fraction strictly between 0 and it
pub record JustAfter (P : Fraction → Type 0) : Type 0 where
  pub until : Fraction
  pub above : whole (pos 0) <ℚ until
  pub holds : (x : Fraction) → whole (pos 0) <ℚ x → x <ℚ until → P x
