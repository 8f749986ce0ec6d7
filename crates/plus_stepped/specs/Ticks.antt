-- The tests of a plan in steps of time, in the order of evaluation (this project's profile).
use Rattle.std.specs.Prelude.{ℕ, List, [], ◌∷◌, ◌++◌, map, pos}
use Rattle.std.specs.List.{flat_map}
use Rattle.plus_fraction.specs.Fraction.{Fraction, whole}
use Rattle.plus_model.specs.Terms.{Action, State, Problem}
use Rattle.plus_model.specs.Joint.{joint, NoValue}
use Rattle.plus_model.specs.Running.{rates, moved, holding}
use Rattle.plus_model.specs.Trajectory.{literals}
use Rattle.plus_crossing.specs.Moves.{moved_nodes}
use Rattle.plus_settle.specs.Steps as settle
use Rattle.plus_settle.specs.Steps.{SettleStep}
use Rattle.plus_settle.specs.Rates.{rates_steps}
use Rattle.plus_settle.specs.Settles.{condition_nodes}
use Rattle.plus_steps.specs.Stepped.{time_of_step}
use Rattle.plus_stepped.specs.Tests.{StepTest, asks, fails}
use Rattle.plus_stepped.specs.Asked.{where_ok, action_tests, cascade_tests}

-- net rates ask nodes and values alone, and nothing of what else is asked where a running set is looked for
abbrev pub of_rate : SettleStep → List StepTest
of_rate (settle.asks n) = asks n ∷ []
of_rate (settle.no_value f) = fails (NoValue f) ∷ []
of_rate _ = []

unfoldable pub of_rates : List SettleStep → List StepTest
of_rates ts = flat_map of_rate ts

-- the beginning: the cascade after the literals of time 0
unfoldable pub begin_tests : Problem → List StepTest
begin_tests P = cascade_tests P (literals P (whole (pos 0)) P.initial)

-- an action, and the cascade after it
unfoldable pub act_tests : Problem → Action → State → List StepTest
act_tests P action s = action_tests action s ++ where_ok (joint action.effects s) (cascade_tests P)

-- a step of time: the conditions of all processes in ground order, the rates of those that hold, and the moved fluents
unfoldable pub moving_tests : Problem → Fraction → State → List StepTest
moving_tests P q s =
    map asks (condition_nodes P.processes s)
    ++ (of_rates (rates_steps P s (holding P s)) ++ where_ok (rates P s (holding P s)) (λ rs. map asks (moved_nodes s.fluents rs q)))

-- the state at the end of the n-th step, before its cascade
abbrev pub at_end : Problem → Fraction → ℕ → State → List Fraction → State
at_end P q n s rs = literals P (time_of_step q n) (moved s rs q)

-- the n-th step, and the cascade after the literals of its end
unfoldable pub tick_tests : Problem → Fraction → ℕ → State → List StepTest
tick_tests P q n s =
    moving_tests P q s ++ where_ok (rates P s (holding P s)) (λ rs. cascade_tests P (at_end P q n s rs))
