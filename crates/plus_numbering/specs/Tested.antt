-- What a walk over forms tells of the literals in them.
use Rattle.std.specs.Prelude.{List, Result, MatchResult, All}
use Rattle.plus_fraction.specs.Fraction.{Fraction}
use Rattle.plus_tokens.specs.declared.span.Span.{Span}
use Rattle.plus_tree.specs.declared.terms.Literal.{Literal}
use Rattle.plus_literal.specs.Value.{LiteralFits}
use Rattle.plus_expansion.specs.Unfit.{IsFirstUnfitAt}

-- all these literals are values of the type
pub record AllFit (fits : Fraction → Type 0) (literals : List Literal) : Type 0 where
  pub each : All (LiteralFits fits) literals

-- a walk is done where all fit, and else answers the place of the first that does not
abbrev pub Tests : {A : Type 0} → (Fraction → Type 0) → List Literal → Result A Span → Type 0
Tests fits literals r = MatchResult r (λ _. AllFit fits literals) (IsFirstUnfitAt fits literals)
