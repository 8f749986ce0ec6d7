-- Millionths as pairs.
use Rattle.std.specs.Prelude.{◌≡◌}
use Rattle.plus_number.specs.declared.frac.Frac64.{Frac64}
use Rattle.plus_number.specs.Frac as frac
use Rattle.plus_number.specs.declared.ticks.Ticks.{Ticks}
use Rattle.plus_number.specs.Ticks.{fraction_of}

abbrev pub same_fraction : Ticks → Frac64 → Type 0
same_fraction t f = frac.fraction_of f ≡ fraction_of t
