-- Worked rows over atoms alone: a door that is closed (atom 0) and locked (atom 1).
use Rattle.std.specs.Prelude.{ℕ, Bool, true, false, List, [], ◌∷◌, pos}
use Rattle.plus_fraction.specs.Fraction.{whole}
use Rattle.plus_model.specs.Terms.{Condition, Always, Both, Atom, Delete, Write, Action, State, Problem}
use Rattle.plus_model.specs.Plan.{Called, Instance, UnknownAction, WrongArguments, Line, ActLine, EndLine, Plan}
use Rattle.plus_model.specs.History.{Part, Enter, Act, Run}

abbrev pub door_state : Bool → Bool → State
door_state closed locked = record { atoms = closed ∷ locked ∷ []; fluents = [] }

abbrev pub does : Condition → Write → Action
does condition write =
    record { label = []; condition = condition; effects = record { guard = Always; write = write } ∷ [] }

abbrev pub unlock : Action
unlock = does (Atom 1 true) (Delete 1)

abbrev pub open_door : Action
open_door = does (Both (Atom 0 true) (Both (Atom 1 false) Always)) (Delete 0)

abbrev pub door : Problem
door = record {
  atoms = 2;
  fluents = 0;
  processes = [];
  events = [];
  timed = [];
  initial = door_state true true;
  goal = Atom 0 false;
}

abbrev pub call_at : ℕ → Called → Line
call_at t call = ActLine (whole (pos t)) call

abbrev pub end_at : ℕ → Line
end_at t = EndLine (whole (pos t))

-- a plan whose text was read to its end, and lines of which more may come
abbrev pub plan_of : List Line → Plan
plan_of lines = record { lines = lines; closed = true }

abbrev pub lines_of : List Line → Plan
lines_of lines = record { lines = lines; closed = false }

abbrev pub enter : ℕ → State → Part
enter t s = Enter (whole (pos t)) s s

-- the bytes of the word "shut"
abbrev pub shut : List ℕ
shut = 115 ∷ 104 ∷ 117 ∷ 116 ∷ []

-- unlocked at 1 and opened at 3
abbrev pub door_plan : Plan
door_plan = plan_of (call_at 1 (Instance unlock) ∷ call_at 3 (Instance open_door) ∷ [])

abbrev pub door_history : List Part
door_history =
    enter 0 (door_state true true) ∷ Run []
    ∷ enter 1 (door_state true true) ∷ Act 0 (door_state true false) ∷ Run []
    ∷ enter 3 (door_state true false) ∷ Act 1 (door_state false false)
    ∷ []

-- opened while it is locked
abbrev pub locked_plan : Plan
locked_plan = plan_of (call_at 3 (Instance open_door) ∷ [])

abbrev pub locked_history : List Part
locked_history = enter 0 (door_state true true) ∷ Run [] ∷ enter 3 (door_state true true) ∷ []

-- unlocked, and left closed
abbrev pub closed_plan : Plan
closed_plan = plan_of (call_at 1 (Instance unlock) ∷ [])

abbrev pub closed_history : List Part
closed_history =
    enter 0 (door_state true true) ∷ Run []
    ∷ enter 1 (door_state true true) ∷ Act 0 (door_state true false)
    ∷ []

-- nothing is done
abbrev pub empty_plan : Plan
empty_plan = plan_of []

abbrev pub start_history : List Part
start_history = enter 0 (door_state true true) ∷ []

-- calls that are no action
abbrev pub unknown_plan : Plan
unknown_plan = plan_of (call_at 0 (UnknownAction shut) ∷ [])

abbrev pub wrong_plan : Plan
wrong_plan = plan_of (call_at 0 (WrongArguments shut) ∷ [])

-- a line is read that goes back, or stands after the end
abbrev pub lines_to_one : Plan
lines_to_one = lines_of (call_at 1 (Instance unlock) ∷ [])

abbrev pub ended_at_one : Plan
ended_at_one = lines_of (end_at 1 ∷ [])

abbrev pub ended_history : List Part
ended_history = enter 0 (door_state true true) ∷ Run [] ∷ enter 1 (door_state true true) ∷ []
