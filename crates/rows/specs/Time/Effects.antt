-- Worked rows of joint effects that are none: by an action, by a round of events, and beside an
-- event that repeats. The fluents are x, which is 0 at first, and y.
use Rattle.std.specs.Prelude.{◌≡◌, ℕ, true, false, List, [], ◌∷◌, Some, None, Err}
use Rattle.plus_model.specs.Terms.{Number, Fluent, AtMost, Same, AtLeast, Always, Compare, Assign, Increase, Action, State, Problem}
use Rattle.plus_model.specs.Joint.{NoValue, joint}
use Rattle.plus_model.specs.Firing.{firing, effects_of}
use Rattle.plus_model.specs.Plan.{Instance, ActLine, Plan}
use Rattle.plus_model.specs.History.{Part, Round}
use Rattle.plus_model.specs.Breach.{Breaks, Repeats}
use Rattle.rows.specs.Model.Rises.{n, values, if_x, fires, world, world_of, to_eight, enter}

-- nothing runs and nothing fires
abbrev pub still_world : Problem
still_world = world [] []

-- x := 1 and x += 1
abbrev pub twice : Action
twice = record {
  label = [];
  condition = Always;
  effects =
      record { guard = Always; write = Assign 0 (Number (n 1)) }
      ∷ record { guard = Always; write = Increase 0 (Number (n 1)) }
      ∷ [];
}

abbrev pub twice_plan : Plan
twice_plan = record { lines = ActLine (n 0) (Instance twice) ∷ []; closed = true }

-- y has no value
abbrev pub without_y : ℕ → State
without_y x = record { atoms = []; fluents = Some (n x) ∷ None ∷ [] }

-- an event increases y at once
abbrev pub lost_world : Problem
lost_world = world_of (without_y 0) [] (fires Always (Increase 1 (Number (n 1))) ∷ [])

-- event 1 increases x while x is at most 1: at 1 it would fire again, and event 0, which increases
-- y, holds there too
abbrev pub repeating_world : Problem
repeating_world = world_of (without_y 0) []
    (fires (if_x AtLeast 1) (Increase 1 (Number (n 1)))
    ∷ fires (if_x AtMost 1) (Increase 0 (Number (n 1)))
    ∷ [])

abbrev pub repeating_history : List Part
repeating_history = enter 0 (without_y 0) ∷ Round (1 ∷ []) (without_y 1) ∷ []

-- there is no joint effect, and the breach is the event that repeats
pub record RepeatsRow : Type 0 where
  pub both : firing repeating_world (without_y 1) ≡ 0 ∷ 1 ∷ []
  pub none : joint (effects_of repeating_world (0 ∷ 1 ∷ [])) (without_y 1) ≡ Err (NoValue 1)
  pub breach : Breaks repeating_world to_eight repeating_history (Repeats 1)

-- event 1 fires at x = 0 and raises x to 1, event 0 from 1 on to 2, and at 2 both would fire again
abbrev pub relay_world : Problem
relay_world = world []
    (fires (if_x AtLeast 1) (Increase 0 (Number (n 1)))
    ∷ fires (Compare Same (Fluent 0) (Number (n 1)) false) (Increase 0 (Number (n 1)))
    ∷ [])

abbrev pub relay_history : List Part
relay_history =
    enter 0 (values 0 0) ∷ Round (1 ∷ []) (values 1 0)
    ∷ Round (0 ∷ []) (values 2 0)
    ∷ []
