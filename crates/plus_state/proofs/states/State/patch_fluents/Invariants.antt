use Rattle.std.proofs.Common.{◌≡◌, drop}
use Rattle.plus_state.specs.ChangesView.{fluent_changes}
use Rattle.plus_state.proofs.PatchLemmas.{Patching, PatchesOnly}
use Rattle.plus_state.proofs.states.State.patch_fluents.Given as goal

abbrev pub invariant-each : goal.invariant-each
invariant-each g l =
    PatchesOnly (l.self ≡ record l.initial.self { fluents = l.self.fluents }) (Patching (fluent_changes g.Q.Exact.value (drop l.change-index l.changes)) (fluent_changes g.Q.Exact.value l.changes) l.self.fluents l.initial.self.fluents)
