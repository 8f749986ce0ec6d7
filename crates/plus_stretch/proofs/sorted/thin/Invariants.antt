use Rattle.std.proofs.Common.{map, drop, option_map}
use Rattle.plus_stretch.specs.declared.mark.Mark.{Mark}
use Rattle.plus_stretch.proofs.Thinned.{Thinning}
use Rattle.plus_stretch.proofs.sorted.thin.Given as goal

abbrev pub invariant-each : goal.invariant-each
invariant-each g l =
    Thinning (g.Q.Exact.value l.bound) (option_map g.Q.Exact.value l.before) (map g.Q.Exact.value l.roots.items) (map (λ (m : Mark _). g.Q.Exact.value m.at) (drop l.mark-index l.sorted)) (map (λ (m : Mark _). g.Q.Exact.value m.at) l.sorted)
