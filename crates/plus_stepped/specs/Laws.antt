-- Why a call is refused, by the definitions alone.
use Rattle.plus_fraction.specs.Fraction.{Fraction}
use Rattle.plus_model.specs.Terms.{Action, State, Problem}
use Rattle.plus_stepped.specs.Tests.{StepTest, IsBreach, FirstFailing}
use Rattle.plus_stepped.specs.Asked.{action_tests, cascade_tests}
use Rattle.plus_stepped.specs.Never.{CannotDo, CannotRest}

-- where the first test that fails is a breach, the action can not be done
abbrev pub BreachIsNoAction : (Fraction → Type 0) → Type 0
BreachIsNoAction fits =
    (action : Action) (s : State) (m : StepTest) → FirstFailing fits (action_tests action s) m → IsBreach m → CannotDo action s

-- where it is one of a cascade, no cascade comes to an end
abbrev pub BreachIsNoCascade : (Fraction → Type 0) → Type 0
BreachIsNoCascade fits =
    (P : Problem) (s : State) (m : StepTest) → FirstFailing fits (cascade_tests P s) m → IsBreach m → CannotRest P s
