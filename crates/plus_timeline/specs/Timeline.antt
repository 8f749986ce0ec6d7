-- What contracts see of a timeline: the view of the history played so far, on which the next part
-- depends, and what the accessors answer.
use Rattle.std.specs.Prelude.{◌≡◌, ℕ, ◌<◌, ◌≤◌, Bool, false, List, [], length, Option, Some, None, pos, All}
use Rattle.std.specs.List.{list_any}
use Rattle.plus_fraction.specs.Fraction.{Fraction, whole, compared}
use Rattle.plus_model.specs.Terms.{Same, State, Problem}
use Rattle.plus_model.specs.Value.{passes}
use Rattle.plus_model.specs.History.{View}
use Rattle.plus_model.specs.Trajectory.{first_view}
pub use Rattle.plus_state.specs.Numbers.{event_numbers, process_numbers}
use Rattle.plus_state.specs.Fits.{StateFits}
use Rattle.plus_cascade.specs.Fired.{IsSetOf}
use Rattle.plus_timeline.specs.declared.next.Next.{Next}
use Rattle.plus_timeline.specs.declared.next.Next.TheVariants.{Round, Run, Entry, There}

pub record TimelineView : Type 0 where
  pub now : View  -- the history so far, as far as the next part depends on it
  pub before : State  -- before the last round, action or stretch; the initial state where there was none
  pub arrival : State  -- on arrival in the present entry, before its timed literals
  pub root : Option State  -- where all is noted that was changed since then
  pub literal : Bool  -- the present entry has a timed literal
  pub events : List ℕ  -- of the last round
  pub running : List ℕ  -- the last running set
  pub rates : List Fraction  -- the net rates of the fluents under it
  pub entries : ℕ  -- begun so far
  pub most : ℕ  -- entries that are allowed
  pub answer : Option (Next Fraction)  -- of the last `advance`
  pub acted : Bool  -- an accepted action came after it
  pub ended : Bool  -- a call was refused, or the goal was tested
  pub atoms : ℕ
  pub fluents : ℕ
  pub event_count : ℕ

-- an answer of the code, over fractions
abbrev pub next_of : {Q : Type 0} → (Q → Fraction) → Next Q → Next Fraction
next_of value Round = Round
next_of value Run = Run
next_of value (Entry t) = Entry (value t)
next_of value There = There

-- some timed literal has this time
abbrev pub has_literal : Problem → Fraction → Bool
has_literal P t = list_any (λ l. passes Same (compared l.time t)) P.timed

-- a timeline that is begun: the first entry, at 0
abbrev pub begun : Problem → ℕ → TimelineView
begun P most =
    record {
      now = first_view P;
      before = P.initial;
      arrival = P.initial;
      root = None;
      literal = has_literal P (whole (pos 0));
      events = [];
      running = [];
      rates = [];
      entries = 1;
      most = most;
      answer = None;
      acted = false;
      ended = false;
      atoms = P.atoms;
      fluents = P.fluents;
      event_count = length P.events;
    }

-- the last part is a running set exactly after the answer `Run`
abbrev pub running_by : Option (Next Fraction) → List ℕ → Option (List ℕ)
running_by None running = None
running_by (Some Round) running = None
running_by (Some Run) running = Some running
running_by (Some (Entry t)) running = None
running_by (Some There) running = None

-- what each timeline keeps: all its states are for the same atoms and fluents, the events that have fired are among those that
-- there are, in a set and in order, and no more entries are begun than are allowed
pub record Keeps (state before arrival : State) (atoms fluents : ℕ) (set : List Bool) (fired : List ℕ) (answer : Option (Next Fraction)) (entries most : ℕ) : Type 0 where
  pub state_fits : StateFits atoms fluents state
  pub before_fits : StateFits atoms fluents before
  pub arrival_fits : StateFits atoms fluents arrival
  pub set_is : IsSetOf set fired
  pub inside : All (λ e. e < length set) fired
  pub within : entries ≤ most
  pub room : answer ≡ Some Run → entries < most
