-- What a call on exact numbers answers.
use Rattle.std.specs.Prelude.{◌≡◌, Result, MatchResult}
use Rattle.plus_number.specs.declared.exact.Outside.{Outside}
use Rattle.plus_fraction.specs.Fraction.{Fraction}

-- q, exactly where q is a value of the type
abbrev pub Answers : {Q : Type 0} → (Q → Fraction) → (Fraction → Type 0) → Fraction → Result Q Outside → Type 0
Answers value fits q r = MatchResult r (λ x. value x ≡ q) (λ _. fits q → ⊥)
