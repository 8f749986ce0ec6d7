-- A measure of a fraction: how far it is from 0, and how fine.
use Rattle.std.specs.Prelude.{ℕ, ◌+◌, unsigned_abs}
use Rattle.plus_fraction.specs.Fraction.{Fraction}

-- the sum of its parts, without a sign
abbrev pub size : Fraction → ℕ
size q = unsigned_abs q.top + q.bottom
