-- Laws over the definitions alone.
use Rattle.std.specs.Prelude.{◌≡◌, ℕ, List}
use Rattle.plus_fraction.specs.Fraction.{Fraction}
use Rattle.plus_model.specs.Terms.{Problem}
use Rattle.plus_model.specs.Plan.{Plan}
use Rattle.plus_stretch.specs.Tests.{IsLimit}
use Rattle.plus_planner.specs.Standing.{IsNoLimit}
use Rattle.plus_trim.specs.Acts.{Act}
use Rattle.plus_trim.specs.Judging.{IsInside, Fails}
use Rattle.plus_trim.specs.Trimmed.{IsKept}

-- no test fails on a plan that is valid inside the limits
abbrev pub InsideOrFails : (Fraction → Type 0) → Type 0
InsideOrFails fits =
    (P : Problem) (most : ℕ) (L : Plan) → IsInside fits P most L → Fails fits P most L (λ t. Unit {0}) → ⊥

-- the first test that fails on a plan is not both a limit and a breach
abbrev pub LimitOrBreach : (Fraction → Type 0) → Type 0
LimitOrBreach fits =
    (P : Problem) (most : ℕ) (L : Plan) → Fails fits P most L IsLimit → Fails fits P most L IsNoLimit → ⊥

-- where the same acts are kept, it is in as many cases that a limit stands without one of them
abbrev pub BeyondOnce : (Fraction → Type 0) → Type 0
BeyondOnce fits =
    (P : Problem) (most : ℕ) (xs : List Act) (last : Fraction) (places : List ℕ) (n m : ℕ)
    → IsKept fits P most xs last places n → IsKept fits P most xs last places m → n ≡ m
