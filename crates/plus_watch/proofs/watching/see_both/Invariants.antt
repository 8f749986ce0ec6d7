use Rattle.plus_watch.specs.Watched.{both_looks}
use Rattle.plus_watch.proofs.Going.{Going}
use Rattle.plus_watch.proofs.watching.see_both.Given as goal

abbrev pub invariant-each : goal.invariant-each
invariant-each g l = Going g.Q.Exact.value g.Q.Exact.fits (both_looks (g.Q.Exact.value l.time) l.arrival l.state) l.watched l.initial.firsts l.index l.firsts
