use Rattle.std.proofs.Common.{map, drop}
use Rattle.plus_state.specs.View.{timed_of}
use Rattle.plus_stepped.specs.Grid.{AllOnGrid}
use Rattle.plus_stepped.proofs.grid.on_grid.Given as goal

abbrev pub invariant-each : goal.invariant-each
invariant-each g l =
    AllOnGrid (g.Q.Exact.value l.interval) (map (timed_of g.Q.Exact.value) (drop l.literal-index l.ground.timed.items))
    → AllOnGrid (g.Q.Exact.value l.interval) (map (timed_of g.Q.Exact.value) l.ground.timed.items)
