-- Worked rows of cascades in a history: when an event may fire again. The atoms are 0 and 1.
use Rattle.std.specs.Prelude.{ℕ, Bool, true, false, List, [], ◌∷◌, pos}
use Rattle.plus_fraction.specs.Fraction.{whole}
use Rattle.plus_model.specs.Terms.{Always, Both, Atom, Write, Add, Delete, Effect, Action, Event, Timed, State, Problem}
use Rattle.plus_model.specs.Plan.{Instance, ActLine, EndLine, Plan}
use Rattle.plus_model.specs.History.{Part, Enter, Round, Act, Run}

abbrev pub token_state : Bool → Bool → State
token_state a b = record { atoms = a ∷ b ∷ []; fluents = [] }

abbrev pub does : Write → Effect
does write = record { guard = Always; write = write }

-- the event takes the atom away, and brings others
abbrev pub takes : ℕ → List Effect → Event
takes atom effects = record { label = []; condition = Atom atom true; effects = does (Delete atom) ∷ effects }

abbrev pub token_world : State → List Event → List Timed → Problem
token_world initial events timed = record {
  atoms = 2;
  fluents = 0;
  processes = [];
  events = events;
  timed = timed;
  initial = initial;
  goal = Both (Atom 0 false) (Both (Atom 1 false) Always);
}

abbrev pub enter : ℕ → State → State → Part
enter t arrival after = Enter (whole (pos t)) arrival after

-- two events hand on a token to each other: after two rounds the first would fire again
abbrev pub loop_world : Problem
loop_world =
    token_world (token_state true false) (takes 0 (does (Add 1) ∷ []) ∷ takes 1 (does (Add 0) ∷ []) ∷ []) []

abbrev pub loop_plan : Plan
loop_plan = record { lines = []; closed = true }

abbrev pub loop_history : List Part
loop_history =
    enter 0 (token_state true false) (token_state true false)
    ∷ Round (0 ∷ []) (token_state false true)
    ∷ Round (1 ∷ []) (token_state true false)
    ∷ []

-- after an action an event may fire again at the same moment
abbrev pub set_world : Problem
set_world = token_world (token_state true false) (takes 0 [] ∷ []) []

abbrev pub set : Action
set = record { label = []; condition = Atom 0 false; effects = does (Add 0) ∷ [] }

abbrev pub set_plan : Plan
set_plan = record {
  lines = ActLine (whole (pos 0)) (Instance set) ∷ ActLine (whole (pos 0)) (Instance set) ∷ [];
  closed = true;
}

abbrev pub set_history : List Part
set_history =
    enter 0 (token_state true false) (token_state true false)
    ∷ Round (0 ∷ []) (token_state false false)
    ∷ Act 0 (token_state true false)
    ∷ Round (0 ∷ []) (token_state false false)
    ∷ Act 1 (token_state true false)
    ∷ Round (0 ∷ []) (token_state false false)
    ∷ []

-- and at a later moment; literals set the atom 0 at 0 and 1, and clear the atom 1 at 1
abbrev pub timed_world : Problem
timed_world = token_world (token_state false true) (takes 0 [] ∷ [])
    (record { time = whole (pos 0); atom = 0; positive = true }
    ∷ record { time = whole (pos 1); atom = 0; positive = true }
    ∷ record { time = whole (pos 1); atom = 1; positive = false }
    ∷ record { time = whole (pos 4); atom = 1; positive = true }
    ∷ [])

abbrev pub token_plan : Plan
token_plan = record { lines = EndLine (whole (pos 3)) ∷ []; closed = true }

abbrev pub token_history : List Part
token_history =
    enter 0 (token_state false true) (token_state true true)
    ∷ Round (0 ∷ []) (token_state false true)
    ∷ Run []
    ∷ enter 1 (token_state false true) (token_state true false)
    ∷ Round (0 ∷ []) (token_state false false)
    ∷ Run []
    ∷ enter 3 (token_state false false) (token_state false false)
    ∷ []
