use Rattle.std.proofs.Common.{◌≡◌, ◌+◌, ◌-◌, ◌≤◌, length, map, drop}
use Rattle.plus_state.specs.View.{timed_of}
use Rattle.plus_stepped.specs.Grid.{run_of}
use Rattle.plus_stepped.proofs.literals.run_end.Given as goal

abbrev pub invariant-loop-place : goal.invariant-loop-place
invariant-loop-place g l = record {
  inside : l.place ≤ length l.timed;
  so_far : l.place + run_of (g.Q.Exact.value l.time) (drop l.place (map (timed_of g.Q.Exact.value) l.timed))
      ≡ l.from + run_of (g.Q.Exact.value l.time) (drop l.from (map (timed_of g.Q.Exact.value) l.timed));
}

abbrev pub decreases-loop-place : goal.decreases-loop-place
decreases-loop-place g l = length l.timed - l.place
