-- The tests that each call asks, in the order of evaluation (this project's profile). The first that fails is why the call is
-- refused; where all pass, it is done.
use Rattle.std.specs.Prelude.{ℕ, zero, suc, Bool, true, false, List, [], ◌∷◌, ◌++◌, map, length, replicate, Result, Ok, Err}
use Rattle.plus_model.specs.Terms.{Action, Condition, State, Problem}
use Rattle.plus_model.specs.Value.{holds}
use Rattle.plus_model.specs.Joint.{joint}
use Rattle.plus_model.specs.Firing.{firing, effects_of}
use Rattle.plus_state.specs.Tests.{tests_of}
use Rattle.plus_state.specs.Steps.{guarded, joint_steps}
use Rattle.plus_cascade.specs.Fired.{with_fired}
use Rattle.plus_cascade.specs.Steps.{RoundStep, round_steps}
use Rattle.plus_stepped.specs.Tests.{StepTest, asks, precondition, goal, of_step, of_round}

-- a test that fails unless this is so
abbrev pub unless : Bool → StepTest → List StepTest
unless true t = []
unless false t = t ∷ []

-- what is asked behind what may not be there
abbrev pub where_ok : {A E T : Type 0} → Result A E → (A → List T) → List T
where_ok (Err e) more = []
where_ok (Ok x) more = more x

-- ---- an action, and the goal

-- the condition, and where it holds the joint effect
unfoldable pub action_tests : Action → State → List StepTest
action_tests action s =
    map asks (tests_of action.condition s)
    ++ (unless (holds action.condition s) precondition ++ map of_step (guarded (holds action.condition s) (joint_steps action.effects s)))

unfoldable pub goal_tests : Condition → State → List StepTest
goal_tests c s = map asks (tests_of c s) ++ unless (holds c s) goal

-- ---- a cascade

-- what comes behind a round of these events, in the state after it
abbrev pub after_round : Problem → State → List ℕ → (State → List RoundStep) → List RoundStep
after_round P s [] more = []
after_round P s (e ∷ events) more = where_ok (joint (effects_of P (e ∷ events)) s) more

-- at most so many rounds, after the events of this set
abbrev pub rounds_steps : ℕ → Problem → List Bool → State → List RoundStep
rounds_steps zero P fired s = []
rounds_steps (suc n) P fired s =
    round_steps P fired s ++ after_round P s (firing P s) (λ after. rounds_steps n P (with_fired fired (firing P s)) after)

-- a whole cascade from a state: no event fires twice, so there are no more rounds than events, and one test more that none holds
unfoldable pub cascade_tests : Problem → State → List StepTest
cascade_tests P s = map of_round (rounds_steps (suc (length P.events)) P (replicate (length P.events) false) s)
