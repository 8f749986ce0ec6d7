-- The digits of a number as they are printed.
use Rattle.std.specs.Prelude.{◌≡◌, ℕ, ◌<◌, ◌^◌, decimal}
use Rattle.std.proofs.lemmas.Fmt.{decimal-digits_of}
use Rattle.plus_translation.specs.Renamed.{numeral}

pub numeral_is : (n : ℕ) → 0 < n → n < 2 ^ 64 → decimal n ≡ numeral n
numeral_is n some small = decimal-digits_of n some small
