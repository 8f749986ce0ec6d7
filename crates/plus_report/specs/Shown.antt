-- What can be shown beside a ground problem: states for its atoms and fluents, and ids that are
-- places in its lists.
use Rattle.std.specs.Prelude.{◌<◌, ◌^◌, List, All, length}
use Rattle.plus_model.specs.Terms.{State, Problem}
use Rattle.plus_state.specs.View.{Labels}
use Rattle.plus_state.specs.Fits.{StateFits}
pub use Rattle.plus_state.specs.Numbers.{event_numbers, process_numbers}
use Rattle.plus_state.specs.declared.term.EventId.{EventId}
use Rattle.plus_state.specs.declared.term.ProcessId.{ProcessId}

-- two states over the labelled atoms and fluents, whose numbers have 32 bits
pub record AreOver (N : Labels) (s s' : State) : Type 0 where
  pub first : StateFits (length N.atoms) (length N.fluents) s
  pub second : StateFits (length N.atoms) (length N.fluents) s'
  pub few_atoms : length N.atoms < 2 ^ 32
  pub few_fluents : length N.fluents < 2 ^ 32

-- a state for the atoms and the fluents of a problem
abbrev pub FitsIn : Problem → State → Type 0
FitsIn P s = StateFits P.atoms P.fluents s

-- events and processes of a problem
abbrev pub AreEvents : Problem → List EventId → Type 0
AreEvents P events = All (λ (e : EventId). e.0 < length P.events) events

abbrev pub AreProcesses : Problem → List ProcessId → Type 0
AreProcesses P processes = All (λ (p : ProcessId). p.0 < length P.processes) processes
