use Rattle.std.proofs.Common.{drop}
use Rattle.plus_stretch.specs.Marked.{marks_of}
use Rattle.plus_stretch.proofs.LeastLemmas.{LeastSoFar}
use Rattle.plus_stretch.proofs.least.least_below.Given as goal

abbrev pub invariant-each : goal.invariant-each
invariant-each g l =
    LeastSoFar (g.Q.Exact.value l.bound) (g.Q.Exact.value l.least) (marks_of g.Q.Exact.value l.here.items) (marks_of g.Q.Exact.value (drop l.mark-index l.marks)) (marks_of g.Q.Exact.value l.marks)
