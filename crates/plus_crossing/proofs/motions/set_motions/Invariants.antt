use Rattle.std.proofs.Common.{drop}
use Rattle.plus_crossing.proofs.Drifting.{Drifting}
use Rattle.plus_crossing.proofs.motions.set_motions.Given as goal

abbrev pub invariant-each : goal.invariant-each
invariant-each g l =
    Drifting g.Q.Exact.value g.Q.Exact.fits (drop l.entry-index l.given) l.state l.rates (g.Q.Exact.value l.delay) l.ahead l.fn.ahead
