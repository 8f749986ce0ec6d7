-- What a `Frac64` means: its two parts are those of a fraction.
use Rattle.std.specs.Prelude.{◌≤◌, unsigned_abs}
use Rattle.plus_number.specs.declared.frac.Frac64.{Frac64}
use Rattle.plus_fraction.specs.Fraction.{Fraction}

-- the fraction that a value means
abbrev pub fraction_of : Frac64 → Fraction
fraction_of f = record { top = f.n; bottom = f.d; positive = f.positive; reduced = f.reduced }

-- both parts are at most 2 ^ 63 - 1
abbrev pub IsFrac64 : Fraction → Type 0
IsFrac64 q = (unsigned_abs q.top ≤ 9223372036854775807) × (q.bottom ≤ 9223372036854775807)
