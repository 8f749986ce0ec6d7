use Rattle.std.proofs.Common.{drop}
use Rattle.plus_state.specs.ChangesView.{fluent_changes}
use Rattle.plus_crossing.proofs.Noting.{Noting}
use Rattle.plus_crossing.proofs.moves.moved_fluents.Given as goal

abbrev pub invariant-each : goal.invariant-each
invariant-each g l =
    Noting g.Q.Exact.value g.Q.Exact.fits (fluent_changes g.Q.Exact.value l.fluents.items) (drop l.entry-index l.given) l.state.fluents l.rates (g.Q.Exact.value l.delay)
