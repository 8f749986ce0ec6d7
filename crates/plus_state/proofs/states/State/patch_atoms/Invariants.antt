use Rattle.std.proofs.Common.{◌≡◌, drop}
use Rattle.plus_state.specs.ChangesView.{atom_changes}
use Rattle.plus_state.proofs.PatchLemmas.{Patching, PatchesOnly}
use Rattle.plus_state.proofs.states.State.patch_atoms.Given as goal

abbrev pub invariant-each : goal.invariant-each
invariant-each g l =
    PatchesOnly (l.self ≡ record l.initial.self { atoms = l.self.atoms }) (Patching (atom_changes (drop l.change-index l.changes)) (atom_changes l.changes) l.self.atoms l.initial.self.atoms)
