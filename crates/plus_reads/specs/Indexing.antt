-- An index of a problem.
use Rattle.std.specs.Prelude.{length}
use Rattle.plus_model.specs.Terms.{Problem}
use Rattle.plus_state.specs.Walk.{event_conditions, process_conditions}
use Rattle.plus_reads.specs.Tables.{Covers, AreBelow}
use Rattle.plus_reads.specs.declared.index.Index.{Index}

-- each event and each process of the problem is listed under all that its condition names, and there are no other numbers in it
pub record Indexes (P : Problem) (i : Index) : Type 0 where
  pub events : Covers (event_conditions P) i.events
  pub events_below : AreBelow (length (event_conditions P)) i.events
  pub processes : Covers (process_conditions P) i.processes
  pub processes_below : AreBelow (length (process_conditions P)) i.processes
