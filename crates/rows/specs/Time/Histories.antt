-- Worked rows of histories, most of them over two fluents x and y, where x rises by 1.
use Rattle.std.specs.Prelude.{ℕ, Bool, true, false, List, [], ◌∷◌, Some}
use Rattle.plus_model.specs.Terms.{Number, Test, Same, AtLeast, Always, Atom, Add, Delete, Assign, Increase, Action, State, Problem}
use Rattle.plus_model.specs.Plan.{Instance, ActLine, EndLine, Plan}
use Rattle.plus_model.specs.History.{Part, Enter, Round, Act, Run}
use Rattle.rows.specs.Model.Rises.{n, values, if_x, moves, up, fires, world, enter}
use Rattle.rows.specs.Model.Token.{token_state, token_world, takes, does}

-- process 1 starts at x = 5, or just after it
abbrev pub starting_world : Test → Problem
starting_world test = world (up ∷ moves (if_x test 5) 1 true (Number (n 1)) ∷ []) []

abbrev pub starting_history : List Part
starting_history =
    enter 0 (values 0 0) ∷ Run (0 ∷ [])
    ∷ enter 5 (values 5 0) ∷ Run (0 ∷ 1 ∷ [])
    ∷ enter 8 (values 8 3)
    ∷ []

-- at x = 5 one event takes x back to 0, and another increases y
abbrev pub pair_world : Problem
pair_world =
    world (up ∷ []) (fires (if_x AtLeast 5) (Assign 0 (Number (n 0))) ∷ fires (if_x AtLeast 5) (Increase 1 (Number (n 1))) ∷ [])

abbrev pub pair_history : List Part
pair_history =
    enter 0 (values 0 0) ∷ Run (0 ∷ [])
    ∷ enter 5 (values 5 0) ∷ Round (0 ∷ 1 ∷ []) (values 0 1) ∷ Run (0 ∷ [])
    ∷ enter 8 (values 3 1)
    ∷ []

-- the plan ends at 5
abbrev pub to_five : Plan
to_five = record { lines = EndLine (n 5) ∷ []; closed = true }

abbrev pub over_history : List Part
over_history = enter 0 (values 0 0) ∷ Run (0 ∷ []) ∷ enter 5 (values 5 0) ∷ []

-- a literal rings a bell at 3: the atom 0 is set
abbrev pub bell_state : Bool → ℕ → State
bell_state rings x = record { atoms = rings ∷ []; fluents = Some (n x) ∷ [] }

abbrev pub bell_world : Problem
bell_world = record {
  atoms = 1;
  fluents = 1;
  processes = up ∷ [];
  events = [];
  timed = record { time = n 3; atom = 0; positive = true } ∷ [];
  initial = bell_state false 0;
  goal = Always;
}

abbrev pub bell_history : List Part
bell_history =
    enter 0 (bell_state false 0) ∷ Run (0 ∷ [])
    ∷ Enter (n 3) (bell_state false 3) (bell_state true 3) ∷ Run (0 ∷ [])
    ∷ enter 8 (bell_state true 8)
    ∷ []

-- an action that the bell allows, at the same time
abbrev pub answer : Action
answer =
    record { label = []; condition = Atom 0 true; effects = record { guard = Always; write = Delete 0 } ∷ [] }

abbrev pub answer_plan : Plan
answer_plan = record { lines = ActLine (n 3) (Instance answer) ∷ []; closed = true }

abbrev pub answer_history : List Part
answer_history =
    enter 0 (bell_state false 0) ∷ Run (0 ∷ [])
    ∷ Enter (n 3) (bell_state false 3) (bell_state true 3) ∷ Act 0 (bell_state false 3)
    ∷ []

-- the event holds at x = 5 alone, and takes x on to 6
abbrev pub touching_world : Problem
touching_world = world (up ∷ []) (fires (if_x Same 5) (Assign 0 (Number (n 6))) ∷ [])

abbrev pub touching_history : List Part
touching_history =
    enter 0 (values 0 0) ∷ Run (0 ∷ [])
    ∷ enter 5 (values 5 0) ∷ Round (0 ∷ []) (values 6 0) ∷ Run (0 ∷ [])
    ∷ enter 8 (values 9 0)
    ∷ []

-- a literal sets the atom 0 at 3; the event takes it and sets the atom 1; the action takes that
abbrev pub order_world : Problem
order_world = token_world (token_state false false) (takes 0 (does (Add 1) ∷ []) ∷ [])
    (record { time = n 3; atom = 0; positive = true } ∷ [])

abbrev pub take : Action
take = record { label = []; condition = Atom 1 true; effects = does (Delete 1) ∷ [] }

abbrev pub order_plan : Plan
order_plan = record { lines = ActLine (n 3) (Instance take) ∷ []; closed = true }

abbrev pub order_history : List Part
order_history =
    enter 0 (token_state false false) ∷ Run []
    ∷ Enter (n 3) (token_state false false) (token_state true false)
    ∷ Round (0 ∷ []) (token_state false true)
    ∷ Act 0 (token_state false false)
    ∷ []
