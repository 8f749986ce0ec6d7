-- The tests that are asked of a plan in steps, and of one without time, in one type.
use Rattle.std.specs.Prelude.{ℕ, List}
use Rattle.plus_fraction.specs.Fraction.{Fraction}
use Rattle.plus_model.specs.Joint.{Fault}
use Rattle.plus_state.specs.Node.{Node}
use Rattle.plus_state.specs.Tested as tested
use Rattle.plus_state.specs.Asked.{NodeFits}
use Rattle.plus_state.specs.Steps as joint
use Rattle.plus_state.specs.Steps.{Step}
use Rattle.plus_cascade.specs.Steps as cascade
use Rattle.plus_cascade.specs.Steps.{RoundStep}

-- A node passes where its exact result is a value of the number type. All others are listed only where they fail: the
-- condition of an action does not hold; a joint effect, or the rates of a step, are not there, for this reason; an event
-- would fire twice in one cascade; the goal does not hold.
pub data StepTest : Type 0 where
  asks : Node → StepTest
  precondition : StepTest
  fails : Fault → StepTest
  repeats : ℕ → StepTest
  goal : StepTest

unfoldable pub Passes : (Fraction → Type 0) → StepTest → Type 0
Passes fits (asks n) = NodeFits fits n
Passes fits precondition = ⊥
Passes fits (fails f) = ⊥
Passes fits (repeats e) = ⊥
Passes fits goal = ⊥

-- no test fails
abbrev pub AllPass : (Fraction → Type 0) → List StepTest → Type 0
AllPass fits ts = tested.AllPass (Passes fits) ts

-- the first test that fails
abbrev pub FirstFailing : (Fraction → Type 0) → List StepTest → StepTest → Type 0
FirstFailing fits ts m = tested.FirstFailing (Passes fits) ts m

-- the plan breaks a rule here; else a number is no value of its type, and nothing is said of the plan
abbrev pub IsBreach : StepTest → Type 0
IsBreach (asks n) = ⊥
IsBreach _ = Unit {0}

-- ---- the tests of the layers below
abbrev pub of_step : Step → StepTest
of_step (joint.asks n) = asks n
of_step (joint.fault f) = fails f

abbrev pub of_round : RoundStep → StepTest
of_round (cascade.asks n) = asks n
of_round (cascade.fails f) = fails f
of_round (cascade.repeats e) = repeats e
