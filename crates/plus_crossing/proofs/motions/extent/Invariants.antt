use Rattle.std.proofs.Common.{drop}
use Rattle.plus_crossing.proofs.Drifting.{Extending}
use Rattle.plus_crossing.proofs.motions.extent.Given as goal

abbrev pub invariant-each : goal.invariant-each
invariant-each g l = Extending g.Q.Exact.value l.greatest (drop l.entry-index l.given) l.state.fluents l.rates
