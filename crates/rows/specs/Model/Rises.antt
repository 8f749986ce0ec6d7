-- Worked rows over two fluents x and y, whose values are 0 at first: time that passes, and what
-- ends a stretch. `up` is a process without condition that raises x by 1. Plans end at 8.
use Rattle.std.specs.Prelude.{ℕ, Bool, true, false, List, [], ◌∷◌, Some, None, pos, negsuc}
use Rattle.plus_fraction.specs.Fraction.{Fraction, whole}
use Rattle.plus_model.specs.Terms.{Expression, Number, Fluent, Sum, Test, Below, AtMost, Same, AtLeast, Above, Condition, Always, Compare, Write, Assign, Increase, Action, Event, Process, State, Problem}
use Rattle.plus_model.specs.Running.{JustAfter}
use Rattle.plus_model.specs.Plan.{Instance, ActLine, EndLine, Plan}
use Rattle.plus_model.specs.History.{Part, Enter, Round, Act, Run, View}

abbrev pub n : ℕ → Fraction
n k = whole (pos k)

abbrev pub values : ℕ → ℕ → State
values x y = record { atoms = []; fluents = Some (n x) ∷ Some (n y) ∷ [] }

abbrev pub if_x : Test → ℕ → Condition
if_x test k = Compare test (Fluent 0) (Number (n k)) true

-- while the condition holds, the fluent goes up, or down, by the amount
abbrev pub moves : Condition → ℕ → Bool → Expression → Process
moves condition fluent up amount =
    record { label = []; condition = condition; rates = record { fluent = fluent; up = up; amount = amount } ∷ [] }

abbrev pub up : Process
up = moves Always 0 true (Number (n 1))

abbrev pub fires : Condition → Write → Event
fires condition write =
    record { label = []; condition = condition; effects = record { guard = Always; write = write } ∷ [] }

abbrev pub world_of : State → List Process → List Event → Problem
world_of initial processes events = record {
  atoms = 0;
  fluents = 2;
  processes = processes;
  events = events;
  timed = [];
  initial = initial;
  goal = Always;
}

abbrev pub world : List Process → List Event → Problem
world processes events = world_of (values 0 0) processes events

abbrev pub to_eight : Plan
to_eight = record { lines = EndLine (n 8) ∷ []; closed = true }

abbrev pub enter : ℕ → State → Part
enter t s = Enter (n t) s s

-- the view at a moment t, and after a Run
abbrev pub moment : ℕ → State → ℕ → View
moment t s acted = record { time = n t; state = s; fired = []; running = None; acted = acted }

abbrev pub stretch : ℕ → State → List ℕ → ℕ → View
stretch t s running acted =
    record { time = n t; state = s; fired = []; running = Some running; acted = acted }

-- the running set ends: `side` holds at x = 5, and just after it does not
abbrev pub side_world : Problem
side_world = world (up ∷ moves (if_x AtMost 5) 1 true (Number (n 1)) ∷ []) []

abbrev pub side_history : List Part
side_history =
    enter 0 (values 0 0) ∷ Run (0 ∷ 1 ∷ [])
    ∷ enter 5 (values 5 5) ∷ Run (0 ∷ [])
    ∷ enter 8 (values 8 5)
    ∷ []

-- a process that does not confirm itself: `grow` runs while x is at most 5, and it is what raises x
abbrev pub grow_world : Problem
grow_world = world (moves (if_x AtMost 5) 0 true (Number (n 1)) ∷ []) []

abbrev pub grow_history : List Part
grow_history = enter 0 (values 0 0) ∷ Run (0 ∷ []) ∷ enter 5 (values 5 0) ∷ []

-- an event with no first moment: x above 5
abbrev pub over_world : Problem
over_world = world (up ∷ []) (fires (if_x Above 5) (Assign 0 (Number (n 0))) ∷ [])

abbrev pub over_history : List Part
over_history = enter 0 (values 0 0) ∷ Run (0 ∷ []) ∷ []

-- an event that holds again after it fired
abbrev pub again_world : Problem
again_world = world (up ∷ []) (fires (if_x AtLeast 5) (Increase 0 (Number (n 1))) ∷ [])

abbrev pub again_history : List Part
again_history =
    enter 0 (values 0 0) ∷ Run (0 ∷ []) ∷ enter 5 (values 5 0) ∷ Round (0 ∷ []) (values 6 0) ∷ []

-- two events at one moment that give y two values
abbrev pub clash_world : Problem
clash_world =
    world (up ∷ []) (fires (if_x AtLeast 5) (Assign 1 (Number (n 1))) ∷ fires (if_x AtLeast 5) (Assign 1 (Number (n 2))) ∷ [])

abbrev pub clash_history : List Part
clash_history = enter 0 (values 0 0) ∷ Run (0 ∷ []) ∷ enter 5 (values 5 0) ∷ []

-- a quiet crossing: `stick` holds at x = 5 alone, where x goes on
abbrev pub stick_world : Problem
stick_world = world (up ∷ moves (if_x Same 5) 0 false (Number (n 1)) ∷ []) []

abbrev pub stick_history : List Part
stick_history = enter 0 (values 0 0) ∷ Run (0 ∷ []) ∷ enter 8 (values 8 0) ∷ []

-- but where an action makes a moment at x = 5, both processes hold there and take each other's rate
-- away
abbrev pub note : Action
note = record { label = []; condition = Always; effects = [] }

abbrev pub note_plan : Plan
note_plan = record { lines = ActLine (n 5) (Instance note) ∷ EndLine (n 8) ∷ []; closed = true }

abbrev pub note_history : List Part
note_history =
    enter 0 (values 0 0) ∷ Run (0 ∷ [])
    ∷ enter 5 (values 5 0) ∷ Act 0 (values 5 0) ∷ Run (0 ∷ 1 ∷ [])
    ∷ enter 8 (values 5 0)
    ∷ []

-- a rate of process 0 reads y, which process 1 moves
abbrev pub coupled_world : Problem
coupled_world = world (moves Always 0 true (Fluent 1) ∷ moves Always 1 true (Number (n 1)) ∷ []) []

-- a rate on y, which has no value
abbrev pub lacking_world : Problem
lacking_world =
    world_of (record { atoms = []; fluents = Some (n 0) ∷ None ∷ [] }) (moves Always 1 true (Number (n 1)) ∷ []) []

-- a process that starts just after 0, with a rate on y, which has no value
abbrev pub starting_world : Problem
starting_world =
    world_of lacking_world.initial (up ∷ moves (if_x Above 0) 1 true (Number (n 1)) ∷ []) []

-- an event that holds at every moment after 0, and not at 0
abbrev pub at_once_world : Problem
at_once_world = world (up ∷ []) (fires (if_x Above 0) (Assign 0 (Number (n 0))) ∷ [])

abbrev pub rises : List Fraction
rises = n 1 ∷ n 0 ∷ []

abbrev pub falls : List Fraction
falls = whole (negsuc 0) ∷ n 0 ∷ []

abbrev pub rests : List Fraction
rests = n 0 ∷ n 0 ∷ []

-- this holds just after x = 5
abbrev pub SoonAfter : List Fraction → Condition → Type 0
SoonAfter rs c = JustAfter (values 5 0) rs c

-- which comparisons hold just after x = 5, where x rises, falls and rests
pub record AfterRows : Type 0 where
  pub rising_above : SoonAfter rises (if_x Above 5)
  pub rising_at_least : SoonAfter rises (if_x AtLeast 5)
  pub rising_same : SoonAfter rises (if_x Same 5) → ⊥
  pub rising_at_most : SoonAfter rises (if_x AtMost 5) → ⊥
  pub rising_below : SoonAfter rises (if_x Below 5) → ⊥
  pub falling_above : SoonAfter falls (if_x Above 5) → ⊥
  pub falling_at_least : SoonAfter falls (if_x AtLeast 5) → ⊥
  pub falling_same : SoonAfter falls (if_x Same 5) → ⊥
  pub falling_at_most : SoonAfter falls (if_x AtMost 5)
  pub falling_below : SoonAfter falls (if_x Below 5)
  pub resting_above : SoonAfter rests (if_x Above 5) → ⊥
  pub resting_at_least : SoonAfter rests (if_x AtLeast 5)
  pub resting_same : SoonAfter rests (if_x Same 5)
  pub resting_at_most : SoonAfter rests (if_x AtMost 5)
  pub resting_below : SoonAfter rests (if_x Below 5) → ⊥
  pub rising_not_same : SoonAfter rises (Compare Same (Fluent 0) (Number (n 5)) false)
  pub not_yet : SoonAfter rises (if_x AtLeast 6) → ⊥
  pub still : SoonAfter rises (if_x Below 6)
  pub sides : SoonAfter rises (Compare Below (Fluent 0) (Sum (Fluent 0) (Number (n 1))) true)
