-- Lines `v + m x`: values that move at a constant rate.
use Rattle.std.specs.Ordering.{ordering_then}
use Rattle.std.specs.declared.cmp.Ordering.{Ordering}
use Rattle.plus_fraction.specs.Fraction.{Fraction, ◌+ℚ◌, ◌*ℚ◌, compared}

-- the value at x of the line that is v at 0 and has slope m
abbrev pub line : Fraction → Fraction → Fraction → Fraction
line v m x = v +ℚ m *ℚ x

-- how two lines compare just after 0: by their values there, and by their slopes where these are equal
abbrev pub order_after : Fraction → Fraction → Fraction → Fraction → Ordering
order_after v m w n = ordering_then (compared v w) (compared m n)
