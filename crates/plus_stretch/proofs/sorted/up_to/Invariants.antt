use Rattle.std.proofs.Common.{drop}
use Rattle.plus_stretch.specs.Marked.{marks_of, roots_of}
use Rattle.plus_stretch.proofs.Marks.{Counted}
use Rattle.plus_stretch.proofs.sorted.up_to.Given as goal

abbrev pub invariant-each : goal.invariant-each
invariant-each g l =
    Counted (g.Q.Exact.value l.root) l.count l.mark-index (roots_of (marks_of g.Q.Exact.value (drop l.mark-index l.marks))) (roots_of (marks_of g.Q.Exact.value l.marks))
