-- Worked rows of the tests that are asked at a history, in order. The fluents are x and y, atom 0 is false. Plans end at 8.
use Rattle.std.specs.Prelude.{◌≡◌, ℕ, Bool, true, false, List, [], ◌∷◌, ◌++◌, Option, Some, None, pos}
use Rattle.plus_fraction.specs.Fraction.{Fraction, whole}
use Rattle.plus_model.specs.Terms.{Expression, Number, Fluent, Sum, Product, Test, Below, AtMost, Same, AtLeast, Above, Condition, Always, Both, Compare, Write, Assign, Increase, Action, Event, Process, Timed, State, Problem}
use Rattle.plus_model.specs.Plan.{Instance, UnknownAction, WrongArguments, Called, Line, ActLine, EndLine, Plan}
use Rattle.plus_model.specs.History.{View}
use Rattle.plus_model.specs.Breach as model
use Rattle.plus_state.specs.declared.term.Sign.TheVariants.{Plus, Minus, Times, Divide}
use Rattle.plus_state.specs.Asked.{node}
use Rattle.plus_stretch.specs.Tests.{Test as AskedTest, asks, straight, full, too_many_nodes, breach, event}
use Rattle.plus_timeline.specs.Asked.{asked}

-- a whole number, and a state by its values
abbrev pub n : ℕ → Fraction
n k = whole (pos k)

abbrev pub values : ℕ → ℕ → State
values x y = record { atoms = false ∷ []; fluents = Some (n x) ∷ Some (n y) ∷ [] }

-- the two fluents
abbrev pub x : Expression
x = Fluent 0

abbrev pub y : Expression
y = Fluent 1

-- the test of an expression against a number
abbrev pub if : Expression → Test → ℕ → Condition
if e test k = Compare test e (Number (n k)) true

-- x + k
abbrev pub x_plus : ℕ → Expression
x_plus k = Sum x (Number (n k))

-- a process that raises this fluent by 1
abbrev pub moves : Condition → ℕ → Process
moves condition fluent =
    record { label = []; condition = condition; rates = record { fluent = fluent; up = true; amount = Number (n 1) } ∷ [] }

-- x goes up by 1
abbrev pub up : Process
up = moves Always 0

-- an event with this effect
abbrev pub fires : Condition → Write → Event
fires condition write =
    record { label = []; condition = condition; effects = record { guard = Always; write = write } ∷ [] }

-- a problem in which both fluents begin at 0
abbrev pub world : List Process → List Event → List Timed → Condition → Problem
world processes events timed goal = record {
  atoms = 1;
  fluents = 2;
  processes = processes;
  events = events;
  timed = timed;
  initial = values 0 0;
  goal = goal;
}

-- lines of a plan, closed where its text was read to the end
abbrev pub lines : Bool → List Line → Plan
lines closed ls = record { lines = ls; closed = closed }

abbrev pub to_eight : Plan
to_eight = lines true (EndLine (n 8) ∷ [])

-- at the time 0
abbrev pub at : ℕ → ℕ → List ℕ → Option (List ℕ) → View
at a b fired running = record { time = n 0; state = values a b; fired = fired; running = running; acted = 0 }

-- at most so many entries, of which one is done
abbrev pub ask_at : Problem → Plan → ℕ → View → List AskedTest
ask_at P L most v = asked P L most (λ i. too_many_nodes 3 ∷ []) 1 v

-- ---- closing an entry

-- the event asks x + 1, and the process x + 2
abbrev pub closing : Problem
closing = world (moves (if (x_plus 2) AtMost 9) 0 ∷ []) (fires (if (x_plus 1) AtLeast 5) (Assign 0 (Number (n 0))) ∷ []) [] Always

-- value and slope of x + 2 at these rates, x being 0
abbrev pub soon : ℕ → List AskedTest
soon slope = asks (node Plus (n 0) (n 2)) ∷ asks (node Plus (n slope) (n 0)) ∷ []

-- the events, then the processes, the rates of those that hold, which run just after, their rates, and which run at these
abbrev pub settled : List AskedTest
settled =
    asks (node Plus (n 0) (n 2)) ∷ asks (node Plus (n 0) (n 1)) ∷ (soon 1 ++ asks (node Plus (n 0) (n 1)) ∷ soon 1)

-- what is asked where nothing fires and no line is due
pub record ClosingRows : Type 0 where
  pub closes : ask_at closing to_eight 2 (at 0 0 [] None) ≡ asks (node Plus (n 0) (n 1)) ∷ settled
  -- the count of the entries stands behind the events and before the processes
  pub counts : ask_at closing to_eight 1 (at 0 0 [] None) ≡ asks (node Plus (n 0) (n 1)) ∷ full 1 ∷ settled
  -- nothing but the events is asked where time goes no further and no line is left, before the end of the text
  pub waits : ask_at closing (lines false []) 1 (at 0 0 [] None) ≡ asks (node Plus (n 0) (n 1)) ∷ []
  pub waits_behind_an_end : ask_at closing (lines false (EndLine (n 0) ∷ [])) 1 (at 0 0 [] None) ≡ asks (node Plus (n 0) (n 1)) ∷ []

-- ---- rounds

-- two events from x + 1 = 5 on: the one writes x by y + 1, the other y by x + 3
abbrev pub firing_world : Problem
firing_world = world []
    (fires (if (x_plus 1) AtLeast 5) (Increase 0 (Sum y (Number (n 1))))
    ∷ fires (if (x_plus 1) AtLeast 6) (Assign 1 (Number (n 7)))
    ∷ fires (if (x_plus 1) AtLeast 5) (Increase 1 (x_plus 3)) ∷ []) [] Always

-- all conditions, then the amounts of those that fire, and then the sums, fluent by fluent
pub record RoundRows : Type 0 where
  pub fires_both :
      ask_at firing_world to_eight 1 (at 4 0 [] None)
      ≡ asks (node Plus (n 4) (n 1)) ∷ asks (node Plus (n 4) (n 1)) ∷ asks (node Plus (n 4) (n 1))
      ∷ asks (node Plus (n 0) (n 1)) ∷ asks (node Plus (n 4) (n 3))
      ∷ asks (node Plus (n 4) (n 1)) ∷ asks (node Plus (n 0) (n 7)) ∷ []
  pub repeats :
      ask_at firing_world to_eight 1 (at 4 0 (2 ∷ []) None)
      ≡ asks (node Plus (n 4) (n 1)) ∷ asks (node Plus (n 4) (n 1)) ∷ asks (node Plus (n 4) (n 1))
      ∷ breach (model.Repeats 2)
      ∷ asks (node Plus (n 0) (n 1)) ∷ asks (node Plus (n 4) (n 3))
      ∷ asks (node Plus (n 4) (n 1)) ∷ asks (node Plus (n 0) (n 7)) ∷ []
  -- no line is asked for where an event is due
  pub before_the_line :
      ask_at firing_world (lines true (ActLine (n 0) (UnknownAction []) ∷ [])) 1 (at 4 0 [] None)
      ≡ ask_at firing_world to_eight 1 (at 4 0 [] None)

-- ---- lines

-- the action asks x + 2 and writes y by x + 1
abbrev pub action : Test → Action
action test = record {
  label = [];
  condition = if (x_plus 2) test 2;
  effects = record { guard = if (x_plus 4) AtLeast 0; write = Increase 1 (x_plus 1) } ∷ [];
}

-- the plan of this one call at 0, and a world whose goal is x + 6 at least k
abbrev pub calling : Called → Plan
calling call = lines true (ActLine (n 0) call ∷ [])

abbrev pub goal_world : ℕ → Problem
goal_world k = world [] (fires (if (x_plus 1) AtLeast 5) (Assign 0 (Number (n 0))) ∷ []) [] (if (x_plus 6) AtLeast k)

-- the events, what is asked of the instance, the condition, and the effects
pub record LineRows : Type 0 where
  pub acts :
      ask_at (goal_world 0) (calling (Instance (action AtLeast))) 1 (at 0 0 [] None)
      ≡ asks (node Plus (n 0) (n 1)) ∷ too_many_nodes 3 ∷ asks (node Plus (n 0) (n 2))
      ∷ asks (node Plus (n 0) (n 4)) ∷ asks (node Plus (n 0) (n 1)) ∷ asks (node Plus (n 0) (n 1)) ∷ []
  pub precondition :
      ask_at (goal_world 0) (calling (Instance (action Below))) 1 (at 0 0 [] None)
      ≡ asks (node Plus (n 0) (n 1)) ∷ too_many_nodes 3 ∷ asks (node Plus (n 0) (n 2)) ∷ breach (model.Precondition 0) ∷ []
  pub unknown :
      ask_at (goal_world 0) (calling (UnknownAction [])) 1 (at 0 0 [] None)
      ≡ asks (node Plus (n 0) (n 1)) ∷ breach (model.UnknownAction 0 []) ∷ []
  pub wrong :
      ask_at (goal_world 0) (calling (WrongArguments [])) 1 (at 0 0 [] None)
      ≡ asks (node Plus (n 0) (n 1)) ∷ breach (model.WrongArguments 0 []) ∷ []
  pub goal : ask_at (goal_world 6) (lines true []) 1 (at 0 0 [] None) ≡ asks (node Plus (n 0) (n 1)) ∷ asks (node Plus (n 0) (n 6)) ∷ []
  pub no_goal :
      ask_at (goal_world 7) (lines true (EndLine (n 0) ∷ [])) 1 (at 0 0 [] None)
      ≡ asks (node Plus (n 0) (n 1)) ∷ asks (node Plus (n 0) (n 6)) ∷ breach model.Goal ∷ []

-- ---- stretches

-- x has been going up for so long
abbrev pub after : ℕ → List AskedTest
after k = asks (node Plus (n 0) (n k)) ∷ asks (node Times (n 1) (n k)) ∷ asks (node Plus (n 0) (n k)) ∷ []

-- the nodes of the root of x against a number
abbrev pub root : ℕ → List AskedTest
root k = asks (node Minus (n k) (n 0)) ∷ asks (node Minus (n 1) (n 0)) ∷ asks (node Divide (n k) (n 1)) ∷ []

-- two processes hold at x = 2 alone, and lift y then; the event waits by this test for x to be 5
abbrev pub quiet_world : Test → List Timed → Problem
quiet_world test timed =
    world (up ∷ moves (if x Same 2) 1 ∷ moves (if x Same 2) 1 ∷ []) (fires (if x test 5) (Assign 0 (Number (n 0))) ∷ []) timed Always

-- these processes run from 0 on
abbrev pub runs : List ℕ → View
runs R = at 0 0 [] (Some R)

-- all roots, those of the event first
abbrev pub roots : List AskedTest
roots = root 5 ++ (root 2 ++ root 2)

-- beside x, y goes up too where x is at most 5; the event waits for x + 0 to be 9
abbrev pub ending_world : Problem
ending_world = world (up ∷ moves (if x AtMost 5) 1 ∷ []) (fires (if (x_plus 0) AtLeast 9) (Assign 0 (Number (n 0))) ∷ []) [] Always

-- what is asked along a running set
pub record StretchRows : Type 0 where
  -- the time that is left, the roots, and then the least of them, which is quiet and once there, before the next
  pub quiet : ask_at (quiet_world AtLeast []) to_eight 1 (runs (0 ∷ [])) ≡ asks (node Minus (n 8) (n 0)) ∷ (roots ++ (after 2 ++ after 5))
  -- at 5 the event holds just after, and not there
  pub momentless :
      ask_at (quiet_world Above []) to_eight 1 (runs (0 ∷ []))
      ≡ asks (node Minus (n 8) (n 0)) ∷ (roots ++ (after 2 ++ (after 5 ++ breach (model.NoFirstMoment 0 (n 5)) ∷ [])))
  -- it may do so at once
  pub at_once :
      ask_at (world (up ∷ []) (fires (if x Above 0) (Assign 0 (Number (n 0))) ∷ []) [] Always) to_eight 1 (runs (0 ∷ []))
      ≡ breach (model.NoFirstMoment 0 (n 0)) ∷ []
  -- a literal comes before the second root, and the end is no crossing
  pub to_a_literal :
      ask_at (quiet_world AtLeast (record { time = n 3; atom = 0; positive = true } ∷ [])) to_eight 1 (runs (0 ∷ []))
      ≡ asks (node Minus (n 3) (n 0)) ∷ (roots ++ (after 2 ++ asks (node Times (n 1) (n 3)) ∷ asks (node Plus (n 0) (n 3)) ∷ []))
  -- a root at the time of the literal is none inside
  pub at_a_literal :
      ask_at (quiet_world AtLeast (record { time = n 2; atom = 0; positive = true } ∷ [])) to_eight 1 (runs (0 ∷ []))
      ≡ asks (node Minus (n 2) (n 0)) ∷ (roots ++ asks (node Times (n 1) (n 2)) ∷ asks (node Plus (n 0) (n 2)) ∷ [])
  -- the event just after the beginning; the time; the event's root, the second process's; at 5 the event, and there the set ends
  pub set_ends :
      ask_at ending_world to_eight 1 (runs (0 ∷ 1 ∷ []))
      ≡ asks (node Plus (n 0) (n 0)) ∷ asks (node Plus (n 1) (n 0)) ∷ asks (node Minus (n 8) (n 0))
      ∷ asks (node Plus (n 0) (n 0)) ∷ asks (node Plus (n 1) (n 0)) ∷ (root 9
      ++ (root 5 ++ (after 5 ++ asks (node Times (n 1) (n 5)) ∷ asks (node Plus (n 0) (n 5)) ∷ asks (node Plus (n 5) (n 0)) ∷ [])))
  -- all events are asked at a crossing, also behind one that holds
  pub all_events :
      ask_at (world (up ∷ []) (fires (if x AtLeast 5) (Assign 0 (Number (n 0))) ∷ fires (if (x_plus 0) AtLeast 9) (Assign 0 (Number (n 0))) ∷ []) [] Always) to_eight 1 (runs (0 ∷ []))
      ≡ asks (node Plus (n 0) (n 0)) ∷ asks (node Plus (n 1) (n 0)) ∷ asks (node Minus (n 8) (n 0)) ∷ (root 5
      ++ asks (node Plus (n 0) (n 0)) ∷ asks (node Plus (n 1) (n 0)) ∷ (root 9 ++ (after 5 ++ asks (node Plus (n 5) (n 0)) ∷ [])))
  -- a product of two that move, in the second comparison of the event
  pub not_linear :
      ask_at (world (up ∷ []) (fires (Both (if x AtLeast 9) (Both (if (Product x x) AtLeast 4) Always)) (Assign 0 (Number (n 0))) ∷ []) [] Always) (lines true (EndLine (n 1) ∷ [])) 1 (runs (0 ∷ []))
      ≡ straight (event 0) 2 false ∷ asks (node Times (n 0) (n 0)) ∷ asks (node Times (n 1) (n 0))
      ∷ asks (node Minus (n 1) (n 0)) ∷ (root 9
      ++ straight (event 0) 2 false ∷ asks (node Times (n 0) (n 0)) ∷ asks (node Times (n 1) (n 0)) ∷ asks (node Times (n 1) (n 1)) ∷ asks (node Plus (n 0) (n 1)) ∷ [])
