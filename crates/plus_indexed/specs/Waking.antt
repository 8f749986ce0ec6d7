-- Which events and which processes wait after a part of the history.
use Rattle.std.specs.Prelude.{◌≡◌, ℕ, List, [], Some}
use Rattle.plus_state.specs.Changes.{Changes, LeadsTo}
use Rattle.plus_timeline.specs.declared.next.Next.{Next}
use Rattle.plus_timeline.specs.declared.next.Next.TheVariants.{Round, Run, Entry, There}
use Rattle.plus_indexed.specs.Indexed.{IndexedView}
use Rattle.plus_indexed.specs.Woken.{AreWoken, AddsReaders}

-- the events of before, and the readers of what the last step changed
pub record WokenBy (v : IndexedView) (before after : List ℕ) : Type 0 where
  pub changes : Changes
  pub leads : LeadsTo v.line.before changes v.line.now.state
  pub woken : AreWoken v.kept.index.events changes before after

-- the events that waited before the last step, and the readers of what it changed
pub record StillWoken (v : IndexedView) (after : List ℕ) : Type 0 where
  pub before : List ℕ
  pub waited : v.kept.events ≡ Some before
  pub by : WokenBy v before after

-- after a round those events that fired in it wait; where time is to pass, and where it stops for a line, none waits
abbrev pub EventsAfter : {Q : Type 0} → Next Q → IndexedView → List ℕ → Type 0
EventsAfter Round v waiting = WokenBy v v.line.events waiting
EventsAfter Run v waiting = waiting ≡ []
EventsAfter (Entry t) v waiting = StillWoken v waiting
EventsAfter There v waiting = waiting ≡ []

-- the processes that waited before the last step, and the readers of what it changed
pub record ProcessesWoken (v : IndexedView) (after : List ℕ) : Type 0 where
  pub before : List ℕ
  pub were : v.kept.processes ≡ Some before
  pub changes : Changes
  pub leads : LeadsTo v.line.before changes v.line.now.state
  pub woken : AddsReaders v.kept.index.processes changes before after

-- processes wait that waited before, and where the state changed the readers of what changed
abbrev pub ProcessesAfter : {Q : Type 0} → Next Q → IndexedView → List ℕ → Type 0
ProcessesAfter Round v waiting = ProcessesWoken v waiting
ProcessesAfter Run v waiting = v.kept.processes ≡ Some waiting
ProcessesAfter (Entry t) v waiting = ProcessesWoken v waiting
ProcessesAfter There v waiting = v.kept.processes ≡ Some waiting
