-- A worked row: a tank that is opened at 1, is full at 7/2, and is left to 10.
use Rattle.std.specs.Prelude.{true, false, List, [], ◌∷◌, Some, pos}
use Rattle.plus_fraction.specs.Fraction.{Fraction, over, whole, ◌+ℚ◌, ◌-ℚ◌}
use Rattle.plus_model.specs.Terms.{Number, Fluent, AtLeast, Condition, Always, Both, Atom, Compare, Add, Delete, Action, Event, Process, Timed, State, Problem}
use Rattle.plus_model.specs.Running.{moved}
use Rattle.plus_model.specs.Plan.{Instance, ActLine, EndLine, Plan}
use Rattle.plus_model.specs.History.{Part, Enter, Round, Act, Run}
use Rattle.plus_model.specs.Trajectory.{literals}

abbrev pub at_five : Condition
at_five = Compare AtLeast (Fluent 0) (Number (whole (pos 5))) true

abbrev pub open_valve : Action
open_valve =
    record { label = []; condition = Atom 0 false; effects = record { guard = Always; write = Add 0 } ∷ [] }

abbrev pub fill : Process
fill = record {
  label = [];
  condition = Atom 0 true;
  rates = record { fluent = 0; up = true; amount = Number (whole (pos 2)) } ∷ [];
}

abbrev pub is_full : Event
is_full = record {
  label = [];
  condition = Both (Atom 0 true) (Both at_five Always);
  effects = record { guard = Always; write = Delete 0 } ∷ [];
}

abbrev pub tank_of : List Timed → State → Condition → Problem
tank_of timed initial goal = record {
  atoms = 1;
  fluents = 1;
  processes = fill ∷ [];
  events = is_full ∷ [];
  timed = timed;
  initial = initial;
  goal = goal;
}

abbrev pub tank : Problem
tank =
    tank_of [] (record { atoms = false ∷ []; fluents = Some (whole (pos 0)) ∷ [] })
    (Both (Atom 0 false) (Both at_five Always))

abbrev pub tank_plan : Plan
tank_plan =
    record {
      lines = ActLine (whole (pos 1)) (Instance open_valve) ∷ EndLine (whole (pos 10)) ∷ [];
      closed = true;
    }

abbrev pub no_rates : List Fraction
no_rates = whole (pos 0) ∷ []

abbrev pub fill_rates : List Fraction
fill_rates = (whole (pos 0) +ℚ whole (pos 2)) ∷ []

abbrev pub with_open : State → State
with_open s = record { atoms = true ∷ []; fluents = s.fluents }

abbrev pub with_closed : State → State
with_closed s = record { atoms = false ∷ []; fluents = s.fluents }

abbrev pub started : State
started = literals tank (whole (pos 0)) tank.initial

abbrev pub waited : State
waited = moved started no_rates (whole (pos 1) -ℚ whole (pos 0))

abbrev pub opened : State
opened = with_open (literals tank (whole (pos 1)) waited)

abbrev pub filled : State
filled = moved opened fill_rates (over (pos 7) 2 -ℚ whole (pos 1))

abbrev pub stopped : State
stopped = with_closed (literals tank (over (pos 7) 2) filled)

abbrev pub ended : State
ended = moved stopped no_rates (whole (pos 10) -ℚ over (pos 7) 2)

abbrev pub tank_history : List Part
tank_history =
    Enter (whole (pos 0)) tank.initial started
    ∷ Run []
    ∷ Enter (whole (pos 1)) waited (literals tank (whole (pos 1)) waited)
    ∷ Act 0 opened
    ∷ Run (0 ∷ [])
    ∷ Enter (over (pos 7) 2) filled (literals tank (over (pos 7) 2) filled)
    ∷ Round (0 ∷ []) stopped
    ∷ Run []
    ∷ Enter (whole (pos 10)) ended (literals tank (whole (pos 10)) ended)
    ∷ []

-- the same tank, open from the start, and closed by a literal at the moment when it is full: the
-- event does not fire
abbrev pub timed_tank : Problem
timed_tank =
    tank_of (record { time = over (pos 5) 2; atom = 0; positive = false } ∷ [])
    (record { atoms = true ∷ []; fluents = Some (whole (pos 0)) ∷ [] }) (Atom 0 false)

abbrev pub timed_plan : Plan
timed_plan = record { lines = EndLine (whole (pos 3)) ∷ []; closed = true }

abbrev pub begun : State
begun = literals timed_tank (whole (pos 0)) timed_tank.initial

abbrev pub brimming : State
brimming = moved begun fill_rates (over (pos 5) 2 -ℚ whole (pos 0))

abbrev pub shut : State
shut = literals timed_tank (over (pos 5) 2) brimming

abbrev pub rested : State
rested = moved shut no_rates (whole (pos 3) -ℚ over (pos 5) 2)

abbrev pub timed_history : List Part
timed_history =
    Enter (whole (pos 0)) timed_tank.initial begun
    ∷ Run (0 ∷ [])
    ∷ Enter (over (pos 5) 2) brimming shut
    ∷ Run []
    ∷ Enter (whole (pos 3)) rested (literals timed_tank (whole (pos 3)) rested)
    ∷ []
