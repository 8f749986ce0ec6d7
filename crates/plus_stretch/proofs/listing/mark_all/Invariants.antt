use Rattle.std.proofs.Common.{◌++◌, map, drop}
use Rattle.plus_stretch.specs.Tests.{whose}
use Rattle.plus_stretch.specs.Marked.{marks_of}
use Rattle.plus_stretch.proofs.Marks.{Appending}
use Rattle.plus_stretch.proofs.listing.mark_all.Given as goal

abbrev pub invariant-each : goal.invariant-each
invariant-each g l =
    Appending (marks_of g.Q.Exact.value l.into.items) (map (λ r. (g.Q.Exact.value r, whose l.owner)) (drop l.root-index l.roots)) (marks_of g.Q.Exact.value l.initial.into.items ++ map (λ r. (g.Q.Exact.value r, whose l.owner)) l.roots)
