-- Worked rows of events without a first moment. Plans end at 8.
use Rattle.std.specs.Prelude.{ℕ, Bool, true, false, List, [], ◌∷◌, Some}
use Rattle.plus_model.specs.Terms.{Number, Fluent, Same, AtLeast, Above, Always, Compare, Assign, State, Problem}
use Rattle.plus_model.specs.History.{Part, Enter, Run}
use Rattle.rows.specs.Model.Rises.{n, values, if_x, moves, up, fires, world_of, enter}

-- x falls from 6; event 0 waits for `x > 6`, event 1 for `(not (>= (x) 5))`
abbrev pub negated_world : Problem
negated_world = world_of (values 6 0) (moves Always 0 false (Number (n 1)) ∷ [])
    (fires (if_x Above 6) (Assign 0 (Number (n 0)))
    ∷ fires (Compare AtLeast (Fluent 0) (Number (n 5)) false) (Assign 0 (Number (n 9)))
    ∷ [])

abbrev pub negated_history : List Part
negated_history = enter 0 (values 6 0) ∷ Run (0 ∷ []) ∷ []

-- x rises, the event waits for `x > 5`; process 1 holds at x = 2 alone; a literal comes at this time
abbrev pub bell_state : Bool → ℕ → State
bell_state rings x = record { atoms = rings ∷ []; fluents = Some (n x) ∷ [] }

abbrev pub bell_world : ℕ → Problem
bell_world time = record {
  atoms = 1;
  fluents = 1;
  processes = up ∷ moves (if_x Same 2) 0 false (Number (n 1)) ∷ [];
  events = fires (if_x Above 5) (Assign 0 (Number (n 0))) ∷ [];
  timed = record { time = n time; atom = 0; positive = true } ∷ [];
  initial = bell_state false 0;
  goal = Always;
}

abbrev pub bell_history : List Part
bell_history = enter 0 (bell_state false 0) ∷ Run (0 ∷ []) ∷ []

abbrev pub bell_at_five_history : List Part
bell_at_five_history =
    enter 0 (bell_state false 0) ∷ Run (0 ∷ [])
    ∷ Enter (n 5) (bell_state false 5) (bell_state true 5) ∷ Run (0 ∷ [])
    ∷ []
