-- When a refusal of what is counted, or of a literal, comes. Want of memory may come at any growth.
use Rattle.std.specs.Prelude.{◌≡◌, ℕ, ◌<◌, List, Some}
use Rattle.plus_fraction.specs.Fraction.{Fraction}
use Rattle.plus_tree.specs.declared.terms.Literal as terms
use Rattle.plus_types.specs.declared.faults.File.{File}
use Rattle.plus_expansion.specs.declared.counts.Count.{Count}
use Rattle.plus_expansion.specs.Counts.{Counted, first_over}
use Rattle.plus_expansion.specs.Unfit.{IsFirstUnfitIn}
use Rattle.plus_numbering.specs.declared.faults.GroundFault.{GroundFault}
use Rattle.plus_numbering.specs.declared.faults.GroundFault.TheVariants.{TooMany, Literal, Memory}

-- too many of the first kind that passes its limit
abbrev pub RefusesCount : List Counted → GroundFault → Type 0
RefusesCount counts (TooMany kind most) = (n : ℕ) × (first_over counts ≡ Some (record { kind = kind; most = most; number = n }))
RefusesCount counts (Literal file span) = ⊥
RefusesCount counts Memory = Unit {0}

-- there are more than so many of a kind; want of memory says nothing
abbrev pub IsOver : Count → ℕ → ℕ → GroundFault → Type 0
IsOver kind most number (TooMany k m) = (k ≡ kind) × (m ≡ most) × (most < number)
IsOver kind most number (Literal file span) = ⊥
IsOver kind most number Memory = Unit {0}

-- the first of these literals that is no value stands here, in this text
abbrev pub RefusesLiteral : (Fraction → Type 0) → List (File × terms.Literal) → GroundFault → Type 0
RefusesLiteral fits literals (TooMany kind most) = ⊥
RefusesLiteral fits literals (Literal file span) = IsFirstUnfitIn fits literals file span
RefusesLiteral fits literals Memory = ⊥
