-- Worked rows: histories, and the whole reports that they have.
use Rattle.std.specs.Prelude.{◌≡◌, ℕ, Bool, true, false, List, [], ◌∷◌, ◌++◌, Option, Some, pos, codes, map}
use Rattle.plus_fraction.specs.Fraction.{Fraction, over, whole}
use Rattle.plus_model.specs.Terms.{Always, Timed, State, Problem}
use Rattle.plus_model.specs.Plan.{Instance, Line, ActLine, EndLine, Plan}
use Rattle.plus_model.specs.History.{Part, Enter, Round, Act, Run}
use Rattle.plus_state.specs.View.{Labels}
use Rattle.plus_report.specs.Report.{report_of}

-- what a report reads of a problem: labels of processes and of events, times of literals, and the
-- initial state
abbrev pub problem_with : List (List ℕ) → List (List ℕ) → List Timed → State → Problem
problem_with processes events timed initial = record {
  atoms = 0;
  fluents = 0;
  processes = map (λ l. record { label = l; condition = Always; rates = [] }) processes;
  events = map (λ l. record { label = l; condition = Always; effects = [] }) events;
  timed = timed;
  initial = initial;
  goal = Always;
}

abbrev pub state_with : List Bool → List (Option Fraction) → State
state_with atoms fluents = record { atoms = atoms; fluents = fluents }

-- the line that calls the action with this label
abbrev pub act_line : Fraction → List ℕ → Line
act_line t label = ActLine t (Instance (record { label = label; condition = Always; effects = [] }))

abbrev pub plan_of : List Line → Plan
plan_of lines = record { lines = lines; closed = true }

-- a door is unlocked at 1 and opened at 3
abbrev pub door_labels : Labels
door_labels = record { atoms = codes "(closed)" ∷ codes "(locked)" ∷ []; fluents = [] }

abbrev pub door : Bool → Bool → State
door closed locked = state_with (closed ∷ locked ∷ []) []

abbrev pub door_plan : Plan
door_plan = plan_of (act_line (whole (pos 1)) (codes "(unlock)") ∷ act_line (whole (pos 3)) (codes "(open-door)") ∷ [])

abbrev pub door_history : List Part
door_history =
    Enter (whole (pos 0)) (door true true) (door true true)
    ∷ Run []
    ∷ Enter (whole (pos 1)) (door true true) (door true true)
    ∷ Act 0 (door true false)
    ∷ Run []
    ∷ Enter (whole (pos 3)) (door true false) (door true false)
    ∷ Act 1 (door false false)
    ∷ []

abbrev pub door_text : List ℕ
door_text =
    codes "at 0\n  run\nat 1\n  act (unlock)\n    - (locked)\n  run\nat 3\n  act (open-door)\n    - (closed)\n"

abbrev pub DoorRow : Type 0
DoorRow = report_of door_labels (problem_with [] [] [] (door true true)) door_plan door_history ≡ door_text

-- a tank is opened at 1, is full at 7/2, and is left to 10
abbrev pub tank_labels : Labels
tank_labels = record { atoms = codes "(open)" ∷ []; fluents = codes "(level)" ∷ [] }

abbrev pub tank_at : Bool → ℕ → State
tank_at running level = state_with (running ∷ []) (Some (whole (pos level)) ∷ [])

abbrev pub tank : List Timed → Problem
tank timed = problem_with (codes "(fill)" ∷ []) (codes "(full)" ∷ []) timed (tank_at false 0)

abbrev pub tank_plan : Plan
tank_plan = plan_of (act_line (whole (pos 1)) (codes "(open-valve)") ∷ EndLine (whole (pos 10)) ∷ [])

abbrev pub tank_history : List Part
tank_history =
    Enter (whole (pos 0)) (tank_at false 0) (tank_at false 0)
    ∷ Run []
    ∷ Enter (whole (pos 1)) (tank_at false 0) (tank_at false 0)
    ∷ Act 0 (tank_at true 0)
    ∷ Run (0 ∷ [])
    ∷ Enter (over (pos 7) 2) (tank_at true 5) (tank_at true 5)
    ∷ Round (0 ∷ []) (tank_at false 5)
    ∷ Run []
    ∷ Enter (whole (pos 10)) (tank_at false 5) (tank_at false 5)
    ∷ []

abbrev pub tank_text : List ℕ
tank_text =
    codes "at 0\n  run\nat 1\n  act (open-valve)\n    + (open)\n  run (fill)\n"
    ++ codes "at 7/2\n  (level) = 5\n  events (full)\n    - (open)\n  run\nat 10\n"

abbrev pub TankRow : Type 0
TankRow = report_of tank_labels (tank []) tank_plan tank_history ≡ tank_text

-- values that an action changes
abbrev pub mix_labels : Labels
mix_labels = record { atoms = []; fluents = codes "(x)" ∷ codes "(y)" ∷ [] }

abbrev pub mix_at : Fraction → Fraction → State
mix_at x y = state_with [] (Some x ∷ Some y ∷ [])

abbrev pub mix_history : List Part
mix_history =
    Enter (whole (pos 0)) (mix_at (over (pos 1) 2) (whole (pos 3))) (mix_at (over (pos 1) 2) (whole (pos 3)))
    ∷ Run []
    ∷ Enter (over (pos 5) 4) (mix_at (over (pos 1) 2) (whole (pos 3))) (mix_at (over (pos 1) 2) (whole (pos 3)))
    ∷ Act 0 (mix_at (over (pos 3) 4) (over (pos 3) 2))
    ∷ []

abbrev pub mix : Problem
mix = problem_with [] [] [] (mix_at (over (pos 1) 2) (whole (pos 3)))

abbrev pub mix_plan : Plan
mix_plan = plan_of (act_line (over (pos 5) 4) (codes "(mix)") ∷ [])

abbrev pub MixRow : Type 0
MixRow =
    report_of mix_labels mix mix_plan mix_history
    ≡ codes "at 0\n  run\nat 5/4\n  act (mix)\n    (x) = 3/4\n    (y) = 3/2\n"

-- the tank is opened by a timed literal at 2, and closed by one at 3
abbrev pub timed_history : List Part
timed_history =
    Enter (whole (pos 0)) (tank_at false 0) (tank_at false 0)
    ∷ Run []
    ∷ Enter (whole (pos 2)) (tank_at false 0) (tank_at true 0)
    ∷ Run (0 ∷ [])
    ∷ Enter (whole (pos 3)) (tank_at true 2) (tank_at false 2)
    ∷ Run []
    ∷ Enter (whole (pos 4)) (tank_at false 2) (tank_at false 2)
    ∷ []

abbrev pub timed_problem : Problem
timed_problem =
    tank (record { time = whole (pos 2); atom = 0; positive = true } ∷ record { time = whole (pos 3); atom = 0; positive = false } ∷ [])

abbrev pub timed_text : List ℕ
timed_text =
    codes "at 0\n  run\nat 2\n  literals\n    + (open)\n  run (fill)\n"
    ++ codes "at 3\n  (level) = 2\n  literals\n    - (open)\n  run\nat 4\n"

abbrev pub TimedRow : Type 0
TimedRow = report_of tank_labels timed_problem (plan_of (EndLine (whole (pos 4)) ∷ [])) timed_history ≡ timed_text
