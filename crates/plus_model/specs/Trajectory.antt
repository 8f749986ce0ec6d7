-- Which parts may come next, and so which histories are prefixes and trajectories of a problem and
-- a plan. This is what it means that a plan is valid: it has a trajectory. The definition speaks of
-- all fractions of time inside a stretch. It knows no root, no slope and no search for the next
-- moment.
-- - A moment goes in this order: the timed literals of that time (before everything else, this
--   project's profile), a cascade of events, then each action of that time in the order of the
--   text, with a cascade after each.
-- - Time passes only where no event holds, and while a stretch lasts no event holds in it: each
--   event of Fox and Long (2006) fires at the first moment at which its condition holds.
-- - A moment stands at time 0, at each time of a plan line and of a literal up to the end, and at
--   any other time exactly where an event holds on arrival or the running set does not go on.
-- - The goal is asked in the state after the last moment.
use Rattle.std.specs.Prelude.{◌≡◌, ◌≢◌, ◌⊎◌, ℕ, Bool, true, List, [], ◌∷◌, Option, Some, None, Ok, slice_get, ◌&&◌, if◌then◌else◌, pos}
use Rattle.plus_fraction.specs.Fraction.{Fraction, whole, ◌-ℚ◌, ◌<ℚ◌, ◌≤ℚ◌, compared}
use Rattle.plus_model.specs.Terms.{Below, Same, Action, Timed, State, Problem}
use Rattle.plus_model.specs.Value.{passes, holds}
use Rattle.plus_model.specs.Joint.{Gains, Loses, Change, joint, new_atoms}
use Rattle.plus_model.specs.Firing.{firing, IsRound}
use Rattle.plus_model.specs.Running.{rates, moved, GoesOn, Settled, first_coupled, Stretch}
use Rattle.plus_model.specs.Plan.{Instance, Line, ActLine, EndLine, time_of, Plan, IsInOrder}
use Rattle.plus_model.specs.History.{Part, Enter, Round, Act, Run, View, view_after, view_from}

-- x is less than y
abbrev pub is_below : Fraction → Fraction → Bool
is_below x y = passes Below (compared x y)

-- what the literals of time t do
abbrev pub literal_changes : Fraction → List Timed → List Change
literal_changes t [] = []
literal_changes t (l ∷ ls) =
    if passes Same (compared l.time t)
    then (if l.positive then Gains l.atom else Loses l.atom) ∷ literal_changes t ls
    else literal_changes t ls

-- the state after the literals of time t; an atom that is set and cleared is set
unfoldable pub literals : Problem → Fraction → State → State
literals P t s = record { atoms = new_atoms 0 (literal_changes t P.timed) s.atoms; fluents = s.fluents }

-- the first line not acted. An end line stands last, so that it is next once all actions are acted.
abbrev pub next_line : Plan → View → Option Line
next_line L v = slice_get L.lines v.acted

-- the time of a line if there is one, else the present time
abbrev pub time_or : Option Line → Fraction → Fraction
time_or None time = time
time_or (Some line) time = time_of line

-- the time of the first line not acted, be it the end's; else the present time
abbrev pub target : Plan → View → Fraction
target L v = time_or (next_line L v) v.time

-- the least of a bound and of the times of literals above the present time
abbrev pub least : Fraction → Fraction → List Timed → Fraction
least time bound [] = bound
least time bound (l ∷ ls) =
    if is_below time l.time && is_below l.time bound then least time l.time ls else least time bound ls

-- how far time may pass in one stretch: up to the next line, or to a literal before it
abbrev pub until : Problem → Plan → View → Fraction
until P L v = least v.time (target L v) P.timed

-- the action is done: no event holds, its condition does, and this is the state after its joint
-- effect
pub record Acts (P : Problem) (v : View) (action : Action) (after : State) : Type 0 where
  pub still : firing P v.state ≡ []
  pub may : holds action.condition v.state ≡ true
  pub effect : joint action.effects v.state ≡ Ok after

-- the action of the first line not acted may come next: the line has the present time and its call
-- an action
pub record ActMayFollow (P : Problem) (L : Plan) (v : View) (i : ℕ) (after : State) : Type 0 where
  pub action : Action
  pub line : i ≡ v.acted
  pub due : next_line L v ≡ Some (ActLine v.time (Instance action))
  pub acts : Acts P v action after

-- the running set may come next: no event holds, time is to pass up to u, the set is settled and no
-- rate reads what moves
pub record RunMayFollow (P : Problem) (u : Fraction) (v : View) (running : List ℕ) : Type 0 where
  pub still : firing P v.state ≡ []
  pub later : v.time <ℚ u
  pub rate : List Fraction
  pub settled : Settled P v.state running rate
  pub uncoupled : first_coupled P running rate ≡ None

-- why a stretch ends on arrival in a state: this is as far as time may pass; or an event holds
-- there; or the running set does not go on from there
pub data Cause
    (P : Problem) (running : List ℕ) (rate : List Fraction) (AtUntil : Type 0) (arrival : State)
    : Type 0 where
  at_until : AtUntil → Cause P running rate AtUntil arrival
  event_holds : firing P arrival ≢ [] → Cause P running rate AtUntil arrival
  set_ends : (GoesOn P arrival rate running → ⊥) → Cause P running rate AtUntil arrival

-- the end of a stretch may come next: the moment t, at most u. The state on arrival is the moved
-- state; the literals of that time come at once, and whether an event holds or the set goes on is
-- asked before them.
pub record EnterMayFollow
    (P : Problem) (u : Fraction) (v : View) (running : List ℕ) (t : Fraction) (arrival after : State)
    : Type 0 where
  pub rate : List Fraction
  pub rate_is : rates P v.state running ≡ Ok rate
  pub later : v.time <ℚ t
  pub within : t ≤ℚ u
  pub stretch : Stretch P v.state running rate (t -ℚ v.time)
  pub arrival_is : arrival ≡ moved v.state rate (t -ℚ v.time)
  pub after_is : after ≡ literals P t arrival
  pub cause : Cause P running rate (t ≡ u) arrival

-- the part may come next where the last part is no Run
abbrev pub AtMoment : Problem → Plan → View → Part → Type 0
AtMoment P L v (Enter t a s) = ⊥
AtMoment P L v (Round events s) = IsRound P v.fired v.state events s
AtMoment P L v (Act i s) = ActMayFollow P L v i s
AtMoment P L v (Run running) = RunMayFollow P (until P L v) v running

-- the part may come next after a Run
abbrev pub InStretch : Problem → Plan → View → List ℕ → Part → Type 0
InStretch P L v running (Enter t a s) = EnterMayFollow P (until P L v) v running t a s
InStretch P L v running _ = ⊥

-- the part may come next, by whether the last part is a Run
abbrev pub NextBy : Problem → Plan → View → Option (List ℕ) → Part → Type 0
NextBy P L v None part = AtMoment P L v part
NextBy P L v (Some running) part = InStretch P L v running part

-- the part may come next
abbrev pub Next : Problem → Plan → View → Part → Type 0
Next P L v part = NextBy P L v v.running part

-- a line was read, or the end of the text. Before that only the first part stands: what comes after
-- it depends on whether the plan is empty.
abbrev pub HasBegun : Plan → Type 0
HasBegun L = (L.lines ≢ []) ⊎ (L.closed ≡ true)

-- the parts may come one after the other
abbrev pub Follow : Problem → Plan → View → List Part → Type 0
Follow P L v [] = Unit {0}
Follow P L v (part ∷ parts) = HasBegun L × Next P L v part × Follow P L (view_after v part) parts

-- the first part: time 0, the initial state, and the state after the literals of time 0; and the
-- view of it
abbrev pub first_part : Problem → Part
first_part P = Enter (whole (pos 0)) P.initial (literals P (whole (pos 0)) P.initial)

abbrev pub first_view : Problem → View
first_view P = record {
  time = whole (pos 0);
  state = literals P (whole (pos 0)) P.initial;
  fired = [];
  running = None;
  acted = 0;
}

-- the history is a beginning of what happens, as far as the lines in order tell
pub record Prefix (P : Problem) (L : Plan) (h : List Part) : Type 0 where
  pub ordered : IsInOrder L.lines
  pub rest : List Part
  pub begins : h ≡ first_part P ∷ rest
  pub follow : Follow P L (first_view P) rest

-- the view of a history that begins as it has to
abbrev pub view_of : Problem → List Part → View
view_of P [] = first_view P
view_of P (part ∷ parts) = view_from (first_view P) parts

-- every action is acted: the line that is next is an end, or there is none
abbrev pub IsEndOrNone : Option Line → Type 0
IsEndOrNone None = Unit {0}
IsEndOrNone (Some (EndLine t)) = Unit {0}
IsEndOrNone (Some (ActLine t call)) = ⊥

-- the lines are worked: every action is acted, no event holds, the last part is no Run, and time is
-- to go no further
pub record IsWorked (P : Problem) (L : Plan) (v : View) : Type 0 where
  pub acted : IsEndOrNone (next_line L v)
  pub still : firing P v.state ≡ []
  pub moment : v.running ≡ None
  pub over : until P L v ≡ v.time

-- the history is what happens from the beginning to the end of the plan, and the goal holds there
pub record Trajectory (P : Problem) (L : Plan) (h : List Part) : Type 0 where
  pub prefix : Prefix P L h
  pub closed : L.closed ≡ true
  pub worked : IsWorked P L (view_of P h)
  pub goal : holds P.goal (view_of P h).state ≡ true
