use Rattle.plus_watch.specs.Looks.{moment_looks}
use Rattle.plus_watch.proofs.Going.{Going}
use Rattle.plus_watch.proofs.watching.see.Given as goal

abbrev pub invariant-each : goal.invariant-each
invariant-each g l = Going g.Q.Exact.value g.Q.Exact.fits (λ c. moment_looks c.when c.condition (g.Q.Exact.value l.time) l.state) l.watched l.initial.firsts l.index l.firsts
