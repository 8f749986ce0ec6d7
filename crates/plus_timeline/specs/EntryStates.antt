-- What contracts see of the states of an entry.
use Rattle.std.specs.Prelude.{◌≡◌, length, refl, Option, IfSome}
use Rattle.std.specs.Coded.{Coded, code_by, coded_option, coded×}
use Rattle.plus_model.specs.Terms.{State}
use Rattle.plus_model.specs.Codes.{coded_state}
use Rattle.plus_state.specs.Changes.{Changes, patched, Within, RisesIn}

pub record EntryView : Type 0 where
  pub state : State  -- now
  pub before : State  -- before the last step
  pub arrival : State  -- on arrival in the entry
  pub root : Option State  -- where all is noted that was changed since then

abbrev pub coded_entry : Coded EntryView
coded_entry =
    code_by ((State × State) × (State × Option State)) (coded× (coded× coded_state coded_state) (coded× coded_state (coded_option coded_state)))
    (λ e. ((e.state, e.before), (e.arrival, e.root)))
    (λ p. record { state = p.0.0; before = p.0.1; arrival = p.1.0; root = p.1.1 })
    (λ _. refl)

-- where the changes are kept they lead from the arrival to the state now, and where there is a state ahead it is equal to that
pub record LedBy (arrival : State) (past : Option Changes) (state : State) (ahead : Option State) : Type 0 where
  pub is : IfSome past (λ p. state ≡ patched arrival p)
  pub within : IfSome past (λ p. Within (length arrival.atoms) (length arrival.fluents) p)
  pub same : IfSome ahead (λ s. s ≡ state)

-- and what is noted is of the atoms and fluents of the state
pub record KeepsEntry (arrival : State) (past : Option Changes) (state : State) (ahead : Option State) (noted : Option Changes) : Type 0 where
  pub led : LedBy arrival past state ahead
  pub inside : IfSome noted (λ u. Within (length state.atoms) (length state.fluents) u)

-- the moves lead from a state to the one ahead, which has the same atoms
pub record IsReached (s : State) (moves : Changes) (ahead : State) : Type 0 where
  pub rises : RisesIn s moves
  pub is : ahead ≡ patched s moves
  pub atoms : ahead.atoms ≡ s.atoms

-- the changes lead from one state to another
pub record Leads (s : State) (c : Changes) (t : State) : Type 0 where
  pub within : Within (length s.atoms) (length s.fluents) c
  pub is : t ≡ patched s c
