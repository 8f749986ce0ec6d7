-- What lets a `Model` or a collection hold fractions.
use Rattle.std.specs.Coded.{Coded, codes, prop_coded, le_prop, Coded-set}
use native.Mathlib.Nat.{ℕ_set}
use Rattle.plus_fraction.specs.Fraction.{Fraction}

pub coded_fraction : Coded Fraction
coded_fraction = hlevel (codes, prop_coded, le_prop, ℕ_set)
