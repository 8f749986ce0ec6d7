-- Conditions of which it is known, without a look at them, that they are false and ask nothing that fails: all others of a list.
use Rattle.std.specs.Prelude.{ℕ, List}
use Rattle.plus_fraction.specs.Fraction.{Fraction}
use Rattle.plus_model.specs.Terms.{Condition, State}
use Rattle.plus_state.specs.Looked.{OthersPass, OthersFalse}

pub record OthersQuiet (fits : Fraction → Type 0) (cs : List Condition) (s : State) (looked : List ℕ) : Type 0 where
  pub pass : OthersPass fits cs s looked
  pub silent : OthersFalse cs s looked
