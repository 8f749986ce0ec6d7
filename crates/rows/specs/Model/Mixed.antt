-- Worked rows of numeric effects in a plan: x is 1/2 and y is 3; z has no value.
use Rattle.std.specs.Prelude.{true, false, List, [], ◌∷◌, Some, None, pos}
use Rattle.plus_fraction.specs.Fraction.{Fraction, whole, over}
use Rattle.plus_model.specs.Terms.{Number, Fluent, Quotient, Same, AtLeast, Condition, Always, Both, Compare, Assign, ScaleUp, Effect, Write, Action, State, Problem}
use Rattle.plus_model.specs.Plan.{Instance, ActLine, Plan}
use Rattle.plus_model.specs.History.{Part, Enter, Act, Run}

abbrev pub mixed_state : Fraction → Fraction → State
mixed_state x y = record { atoms = []; fluents = Some x ∷ Some y ∷ None ∷ [] }

abbrev pub does : Write → Effect
does write = record { guard = Always; write = write }

-- x := y / 4 and y := y * x, both of the state before
abbrev pub mix : Action
mix = record {
  label = [];
  condition = Always;
  effects = does (Assign 0 (Quotient (Fluent 1) (Number (whole (pos 4))))) ∷ does (ScaleUp 1 (Fluent 0)) ∷ [];
}

-- y := z
abbrev pub copy : Action
copy = record { label = []; condition = Always; effects = does (Assign 1 (Fluent 2)) ∷ [] }

abbrev pub mixed_of : Condition → Problem
mixed_of goal = record {
  atoms = 0;
  fluents = 3;
  processes = [];
  events = [];
  timed = [];
  initial = mixed_state (over (pos 1) 2) (whole (pos 3));
  goal = goal;
}

-- the goal asks for x = 3/4 and y = 3/2
abbrev pub mixed : Problem
mixed = mixed_of
    (Both (Compare Same (Fluent 0) (Number (over (pos 3) 4)) true)
    (Both (Compare Same (Fluent 1) (Number (over (pos 3) 2)) true) Always))

abbrev pub mixed_plan : Plan
mixed_plan = record { lines = ActLine (over (pos 5) 4) (Instance mix) ∷ []; closed = true }

abbrev pub mixed_history : List Part
mixed_history =
    Enter (whole (pos 0)) mixed.initial mixed.initial ∷ Run []
    ∷ Enter (over (pos 5) 4) mixed.initial mixed.initial ∷ Act 0 (mixed_state (over (pos 3) 4) (over (pos 3) 2))
    ∷ []

-- the goal asks that z be not at least 1: it has no value
abbrev pub missing : Problem
missing = mixed_of (Compare AtLeast (Fluent 2) (Number (whole (pos 1))) false)

abbrev pub missing_plan : Plan
missing_plan = record { lines = []; closed = true }

abbrev pub missing_history : List Part
missing_history = Enter (whole (pos 0)) missing.initial missing.initial ∷ []

abbrev pub copy_plan : Plan
copy_plan = record { lines = ActLine (whole (pos 0)) (Instance copy) ∷ []; closed = true }
