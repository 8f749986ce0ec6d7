use Rattle.std.proofs.Common.{drop, length}
use Rattle.plus_model.specs.Value.{fluent_of}
use Rattle.plus_state.specs.ChangesView.{fluent_changes}
use Rattle.plus_timeline.proofs.Undoing.{Recalling}
use Rattle.plus_timeline.proofs.undo.recall_fluents.Given as goal

abbrev pub invariant-each : goal.invariant-each
invariant-each g l =
    Recalling (length l.state.fluents) (fluent_of l.state) (fluent_changes g.Q.Exact.value (drop l.change-index l.changes)) (fluent_changes g.Q.Exact.value l.changes) (fluent_changes g.Q.Exact.value l.into.items) (fluent_changes g.Q.Exact.value l.initial.into.items)
