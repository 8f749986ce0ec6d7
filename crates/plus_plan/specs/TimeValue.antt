-- The fraction that a time means.
use Rattle.std.specs.Prelude.{pos}
use Rattle.plus_fraction.specs.Fraction.{Fraction, over}
use Rattle.plus_plan.specs.declared.forms.Time.{Time}

abbrev pub value_of : Time → Fraction
value_of t = over (pos t.top) t.bottom
