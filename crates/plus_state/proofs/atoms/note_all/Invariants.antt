use Rattle.std.proofs.Common.{◌≡◌, ◌++◌, map, drop}
use Rattle.plus_state.specs.Stops.{due_of}
use Rattle.plus_state.specs.ChangesView.{atom_changes}
use Rattle.plus_state.specs.Writes.{puts_as}
use Rattle.plus_state.proofs.atoms.note_all.Given as goal

abbrev pub invariant-each : goal.invariant-each
invariant-each g l =
    atom_changes l.into.items ++ puts_as l.present (map (due_of g.Q.Exact.value) (drop l.write-index l.due)) ≡ atom_changes l.initial.into.items ++ puts_as l.present (map (due_of g.Q.Exact.value) l.due)
