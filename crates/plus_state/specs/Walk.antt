-- The conditions of all events, or of all processes, and what they ask.
use Rattle.std.specs.Prelude.{List, [], ◌∷◌, ◌++◌, map}
use Rattle.plus_model.specs.Terms.{Condition, Event, Process, State, Problem}
use Rattle.plus_state.specs.Node.{Node}
use Rattle.plus_state.specs.Tests.{tests_of}

-- the conditions of all events, and of all processes
abbrev pub event_conditions : Problem → List Condition
event_conditions P = map (λ (e : Event). e.condition) P.events

abbrev pub process_conditions : Problem → List Condition
process_conditions P = map (λ (p : Process). p.condition) P.processes

-- what all these conditions ask, in order
abbrev pub all_asked : List Condition → State → List Node
all_asked [] s = []
all_asked (c ∷ cs) s = tests_of c s ++ all_asked cs s
