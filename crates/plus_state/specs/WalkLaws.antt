-- What a look at some conditions tells of all of them.
use Rattle.std.specs.Prelude.{◌≡◌, ℕ, List, length}
use Rattle.plus_fraction.specs.Fraction.{Fraction}
use Rattle.plus_model.specs.Terms.{Condition, State}
use Rattle.plus_model.specs.Value.{holds}
use Rattle.plus_model.specs.Firing.{numbers_of}
use Rattle.plus_state.specs.Node.{Node}
use Rattle.plus_state.specs.Asked.{AllFit, FirstUnfit}
use Rattle.plus_state.specs.Numbers.{AreMembers}
use Rattle.plus_state.specs.Walk.{all_asked}
use Rattle.plus_state.specs.Looked.{asked_among, held_among, OthersPass, OthersFalse}

-- where nothing that the others ask fails, what these ask tells whether all passes, and what fails first
pub record AsksAll (fits : Fraction → Type 0) (cs : List Condition) (s : State) (looked : List ℕ) : Type 0 where
  pub pass : AllFit fits (asked_among cs looked s) → AllFit fits (all_asked cs s)
  pub stop : (m : Node) → FirstUnfit fits (asked_among cs looked s) m → FirstUnfit fits (all_asked cs s) m

abbrev pub LookSuffices : (Fraction → Type 0) → Type 0
LookSuffices fits =
    (cs : List Condition) (s : State) (looked : List ℕ) → AreMembers (length cs) looked → OthersPass fits cs s looked → AsksAll fits cs s looked

-- where no other condition holds, those of these that hold are all that hold
abbrev pub LookFinds : Type 0
LookFinds =
    (cs : List Condition) (s : State) (looked : List ℕ)
    → AreMembers (length cs) looked → OthersFalse cs s looked → held_among cs looked s ≡ numbers_of (λ c. holds c s) 0 cs
