use Rattle.std.proofs.Common.{map, drop, option_map}
use Rattle.plus_stretch.proofs.Thinned.{Thinning}
use Rattle.plus_watch.proofs.roots.thin.Given as goal

abbrev pub invariant-each : goal.invariant-each
invariant-each g l =
    Thinning (g.Q.Exact.value l.bound) (option_map g.Q.Exact.value l.before) (map g.Q.Exact.value l.roots.items) (map g.Q.Exact.value (drop l.root-index l.sorted)) (map g.Q.Exact.value l.sorted)
