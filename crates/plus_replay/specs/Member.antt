-- The members of a condition, all of which must hold for it to hold, and the first of them that doesn't.
use Rattle.std.specs.Prelude.{List, [], ◌∷◌, ◌++◌, Option, not, Contains}
use Rattle.std.specs.List.{find}
use Rattle.plus_fraction.specs.Fraction.{Fraction}
use Rattle.plus_model.specs.Terms.{Condition, Always, Never, Both, Either, Atom, Compare, State}
use Rattle.plus_model.specs.Value.{holds}
use Rattle.plus_state.specs.Node.{Node}
use Rattle.plus_state.specs.Asked.{FirstUnfit}
use Rattle.plus_state.specs.Tests.{tests_of}

-- what a condition joins by `and`, at any depth, in the order of the text; a condition that is no `and` is its own only member
abbrev pub members : Condition → List Condition
members (Both c d) = members c ++ members d
members Always = Always ∷ []
members Never = Never ∷ []
members (Either c d) = Either c d ∷ []
members (Atom a positive) = Atom a positive ∷ []
members (Compare test left right positive) = Compare test left right positive ∷ []

-- the first member that does not hold in a state, if there is one
abbrev pub first_failing : Condition → State → Option Condition
first_failing c s = find (λ m. not (holds m s)) (members c)

-- a member asks this operation, whose result is no value of the program's numbers
pub record IsUntold (fits : Fraction → Type 0) (c : Condition) (s : State) (operation : Node) : Type 0 where
  pub member : Condition
  pub among : Contains (members c) member
  pub asks : FirstUnfit fits (tests_of member s) operation
