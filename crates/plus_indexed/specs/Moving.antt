-- The readers of what moves.
use Rattle.std.specs.Prelude.{ℕ, List}
use Rattle.plus_reads.specs.Tables.{ReadAny}
use Rattle.plus_reads.specs.declared.index.Index.{Index}

-- an index, and the fluents whose readers are kept
pub record MovingView : Type 0 where
  pub index : Index
  pub moving : List ℕ

-- among these events and processes are all readers of these fluents
pub record AreRead (index : Index) (moving events processes : List ℕ) : Type 0 where
  pub of_events : ReadAny index.events moving events
  pub of_processes : ReadAny index.processes moving processes
