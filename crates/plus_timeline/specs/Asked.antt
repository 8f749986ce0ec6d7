-- The list of tests that is asked at a history, in the order of evaluation (this project's profile). The first that fails is
-- why the plan goes on no further; where all pass, a part comes next, or the next line is waited for.
use Rattle.std.specs.Prelude.{ℕ, Bool, true, false, List, [], ◌∷◌, ◌++◌, map, Option, Some, None, not, nat_eq, if◌then◌else◌}
use Rattle.plus_fraction.specs.Fraction.{Fraction}
use Rattle.plus_model.specs.Terms.{Action, State, Problem}
use Rattle.plus_model.specs.Value.{holds}
use Rattle.plus_model.specs.Firing.{firing, first_shared, effects_of}
use Rattle.plus_model.specs.Plan.{Instance, UnknownAction, WrongArguments, Line, ActLine, EndLine, Plan}
use Rattle.plus_model.specs.History.{View}
use Rattle.plus_model.specs.Trajectory.{is_below, next_line, until}
use Rattle.plus_model.specs.Breach as model
use Rattle.plus_state.specs.Tests.{tests_of}
use Rattle.plus_state.specs.Steps.{guarded, joint_steps}
use Rattle.plus_cascade.specs.Steps.{condition_nodes}
use Rattle.plus_settle.specs.Settles.{settle_steps}
use Rattle.plus_stretch.specs.Tests.{Test, asks, full, breach, of_step, of_settle}
use Rattle.plus_stretch.specs.StretchTests.{if_empty, stretch_tests}

-- ---- a cascade

abbrev pub repeated : Option ℕ → List Test
repeated None = []
repeated (Some e) = breach (model.Repeats e) ∷ []

-- what is asked where these events hold: none may have fired, and then their joint effect
unfoldable pub fire_tests : Problem → List ℕ → State → List ℕ → List Test
fire_tests P fired s [] = []
fire_tests P fired s (e ∷ es) = repeated (first_shared (e ∷ es) fired) ++ map of_step (joint_steps (effects_of P (e ∷ es)) s)

unfoldable pub round_tests : Problem → List ℕ → State → List Test
round_tests P fired s = map asks (condition_nodes P.events s) ++ fire_tests P fired s (firing P s)

-- ---- an action, and the goal

abbrev pub unless : Bool → model.Breach → List Test
unless true b = []
unless false b = breach b ∷ []

unfoldable pub act_tests : ℕ → Action → State → List Test
act_tests i action s =
    map asks (tests_of action.condition s) ++ (unless (holds action.condition s) (model.Precondition i)
    ++ map of_step (guarded (holds action.condition s) (joint_steps action.effects s)))

unfoldable pub goal_tests : Problem → State → List Test
goal_tests P s = map asks (tests_of P.goal s) ++ unless (holds P.goal s) model.Goal

-- ---- closing an entry

abbrev pub count_tests : ℕ → ℕ → List Test
count_tests most entries = if nat_eq entries most then full most ∷ [] else []

unfoldable pub closing_tests : Problem → ℕ → ℕ → State → List Test
closing_tests P most entries s = count_tests most entries ++ map of_settle (settle_steps P s)

-- ---- all together

-- by the next line, where nothing is due and time goes no further; what is asked of an instance stands in front of its action
abbrev pub line_tests : Problem → Plan → (ℕ → List Test) → View → Option Line → List Test
line_tests P L instance v (Some (ActLine t (UnknownAction name))) = breach (model.UnknownAction v.acted name) ∷ []
line_tests P L instance v (Some (ActLine t (WrongArguments name))) = breach (model.WrongArguments v.acted name) ∷ []
line_tests P L instance v (Some (ActLine t (Instance action))) = instance v.acted ++ act_tests v.acted action v.state
line_tests P L instance v (Some (EndLine t)) = if L.closed then goal_tests P v.state else []
line_tests P L instance v None = if L.closed then goal_tests P v.state else []

-- what `advance` asks up to the moment u
abbrev pub advance_by : Problem → ℕ → ℕ → Fraction → View → Option (List ℕ) → List Test
advance_by P most entries u v (Some R) = stretch_tests P u v R
advance_by P most entries u v None =
    round_tests P v.fired v.state
    ++ if_empty (firing P v.state) (if is_below v.time u then closing_tests P most entries v.state else [])

unfoldable pub advance_tests : Problem → ℕ → ℕ → Fraction → View → List Test
advance_tests P most entries u v = advance_by P most entries u v v.running

abbrev pub nothing_due : List ℕ → Bool → Bool
nothing_due [] later = not later
nothing_due (e ∷ es) later = false

-- nothing is due, and time goes no further than now
abbrev pub is_there : Problem → Fraction → View → Option (List ℕ) → Bool
is_there P u v (Some R) = false
is_there P u v None = nothing_due (firing P v.state) (is_below v.time u)

-- what is asked at the history with this view
unfoldable pub asked : Problem → Plan → ℕ → (ℕ → List Test) → ℕ → View → List Test
asked P L most instance entries v =
    advance_tests P most entries (until P L v) v
    ++ (if is_there P (until P L v) v v.running then line_tests P L instance v (next_line L v) else [])
