use Rattle.std.proofs.Common.{◌≡◌, drop, option_map, None}
use Rattle.plus_state.specs.Writes.{clash_after}
use Rattle.plus_state.specs.WritesView.{written, write_list}
use Rattle.plus_state.proofs.writes.first_clash.Given as goal

abbrev pub invariant-each : goal.invariant-each
invariant-each g l =
    clash_after (option_map (written g.Q.Exact.value) l.before) (write_list g.Q.Exact.value (drop l.next-index l.writes)) ≡ clash_after None (write_list g.Q.Exact.value l.writes)
