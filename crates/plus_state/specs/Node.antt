-- An operation on two fractions.
use Rattle.plus_fraction.specs.Fraction.{Fraction}
use Rattle.plus_state.specs.declared.term.Sign.{Sign}

pub record Node : Type 0 where
  pub sign : Sign
  pub left : Fraction
  pub right : Fraction
