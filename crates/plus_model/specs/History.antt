-- The parts of a history, and the view of it on which the next part depends. A history tells what
-- happens, in order. A moment begins with `Enter`: time has come to it. Then rounds of events and
-- actions may follow at that moment, and `Run` says which processes run from there on, up to the
-- next `Enter`. An `Enter` is what Fox and Long (2003) call a happening; here it stands also where
-- an event or process makes one.
use Rattle.std.specs.Prelude.{ℕ, suc, List, [], ◌∷◌, ◌++◌, Option, Some, None}
use Rattle.plus_fraction.specs.Fraction.{Fraction}
use Rattle.plus_model.specs.Terms.{State}

-- one thing that happens
pub data Part : Type 0 where
  Enter : Fraction → State → State → Part  -- a moment, its state on arrival, and the state after its literals
  Round : List ℕ → State → Part  -- events that fired, and the state after
  Act : ℕ → State → Part  -- the plan line acted, and the state after
  Run : List ℕ → Part  -- a running set

-- all that the next part depends on
pub record View : Type 0 where
  pub time : Fraction
  pub state : State
  pub fired : List ℕ  -- since the last Enter or Act
  pub running : Option (List ℕ)  -- where the last part is a Run
  pub acted : ℕ  -- how many lines

-- the view after one more part; events that fired are forgotten at a new moment and after each
-- action
abbrev pub view_after : View → Part → View
view_after v (Enter t a s) = record { time = t; state = s; fired = []; running = None; acted = v.acted }
view_after v (Round events s) =
    record { time = v.time; state = s; fired = v.fired ++ events; running = None; acted = v.acted }
view_after v (Act i s) =
    record { time = v.time; state = s; fired = []; running = None; acted = suc v.acted }
view_after v (Run running) =
    record { time = v.time; state = v.state; fired = v.fired; running = Some running; acted = v.acted }

-- the view after several more parts
abbrev pub view_from : View → List Part → View
view_from v [] = v
view_from v (part ∷ parts) = view_from (view_after v part) parts
