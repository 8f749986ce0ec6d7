use Rattle.plus_watch.specs.Watched.{ending_looks}
use Rattle.plus_watch.proofs.Going.{Going}
use Rattle.plus_watch.proofs.watching.pass.Given as goal

abbrev pub invariant-each : goal.invariant-each
invariant-each g l = Going g.Q.Exact.value g.Q.Exact.fits (ending_looks (g.Q.Exact.value l.begin) l.before l.rates (g.Q.Exact.value l.time) l.arrival l.state) l.watched l.initial.firsts l.index l.firsts
