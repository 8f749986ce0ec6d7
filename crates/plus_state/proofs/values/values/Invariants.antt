use Rattle.std.proofs.Common.{drop, option_map}
use Rattle.plus_state.specs.ChangesView.{fluent_change, fluent_changes}
use Rattle.plus_state.specs.WritesView.{write_list}
use Rattle.plus_state.proofs.OpenLemmas.{Valuing}
use Rattle.plus_state.proofs.values.values.Given as goal

abbrev pub invariant-each : goal.invariant-each
invariant-each g l =
    Valuing g.Q.Exact.fits (fluent_changes g.Q.Exact.value l.changes.items) (option_map (fluent_change g.Q.Exact.value) l.last) (write_list g.Q.Exact.value (drop l.write-index l.writes)) (write_list g.Q.Exact.value l.writes) l.state.fluents
