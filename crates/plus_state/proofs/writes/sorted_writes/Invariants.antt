use Rattle.std.proofs.Common.{◌≡◌, ◌++◌, map, drop}
use Rattle.plus_state.specs.Stops.{due_of}
use Rattle.plus_state.specs.Writes.{sets}
use Rattle.plus_state.specs.WritesView.{write_list}
use Rattle.plus_state.proofs.writes.sorted_writes.Given as goal

abbrev pub invariant-each : goal.invariant-each
invariant-each g l =
    write_list g.Q.Exact.value l.all.items ++ sets (map (due_of g.Q.Exact.value) (drop l.write-index l.due)) ≡ sets (map (due_of g.Q.Exact.value) l.due)
