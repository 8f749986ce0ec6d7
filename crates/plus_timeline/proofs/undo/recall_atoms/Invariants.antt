use Rattle.std.proofs.Common.{drop, length}
use Rattle.plus_model.specs.Value.{atom_of}
use Rattle.plus_state.specs.ChangesView.{atom_changes}
use Rattle.plus_timeline.proofs.Undoing.{Recalling}
use Rattle.plus_timeline.proofs.undo.recall_atoms.Given as goal

abbrev pub invariant-each : goal.invariant-each
invariant-each g l =
    Recalling (length l.state.atoms) (atom_of l.state) (atom_changes (drop l.change-index l.changes)) (atom_changes l.changes) (atom_changes l.into.items) (atom_changes l.initial.into.items)
