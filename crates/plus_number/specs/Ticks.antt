-- What a `Ticks` means: whole numbers of millionths.
use Rattle.std.specs.Prelude.{◌≡◌, ◌≤◌, ℤ, ◌*ℤ◌, unsigned_abs, Result, MatchResult}
use Rattle.plus_number.specs.declared.exact.Outside.{Outside}
use Rattle.plus_number.specs.declared.ticks.Ticks.{Ticks}
use Rattle.plus_fraction.specs.Fraction.{Fraction, over}

-- the fraction that a value means
abbrev pub fraction_of : Ticks → Fraction
fraction_of t = over t.k 1000000

-- the counts of millionths that a value may have
abbrev pub InRange : ℤ → Type 0
InRange k = unsigned_abs k ≤ 9223372036854775807

-- some number of millionths in range
abbrev pub IsTicks : Fraction → Type 0
IsTicks q = (k : ℤ) × InRange k × (over k 1000000 ≡ q)

-- n/d millionths, exactly where that is a whole number of them in range
abbrev pub IsQuotient : ℤ → ℤ → Result Ticks Outside → Type 0
IsQuotient n d r = MatchResult r (λ t. t.k *ℤ d ≡ n) (λ _. (k : ℤ) → k *ℤ d ≡ n → InRange k → ⊥)
