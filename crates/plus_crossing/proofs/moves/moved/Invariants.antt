use Rattle.std.proofs.Common.{drop}
use Rattle.plus_crossing.proofs.Moving.{Moves}
use Rattle.plus_crossing.proofs.moves.moved.Given as goal

abbrev pub invariant-each : goal.invariant-each
invariant-each g l =
    Moves g.Q.Exact.fits l.fluent (drop l.fluent l.rates) (g.Q.Exact.value l.delay) l.next l.rates l.state
