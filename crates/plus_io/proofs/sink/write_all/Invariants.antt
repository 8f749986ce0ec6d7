use Rattle.std.proofs.Common.{length, ◌-◌, ◌≤◌, take}
use Rattle.plus_io.specs.Taken.{Took}
use Rattle.plus_io.proofs.sink.write_all.Given as goal

abbrev pub invariant-loop-done : goal.invariant-loop-done
invariant-loop-done g l = record {
  within : l.done ≤ length l.bytes;
  took : Took (g.O.Sink.taken l.fn.sink) (g.O.Sink.taken l.sink) (take l.done l.bytes);
  no_fall : g.O.Sink.faults l.fn.sink ≤ g.O.Sink.faults l.sink;
}

abbrev pub decreases-loop-done : goal.decreases-loop-done
decreases-loop-done g l = length l.bytes - l.done
