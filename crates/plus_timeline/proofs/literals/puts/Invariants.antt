use Rattle.std.proofs.Common.{◌≡◌, ◌++◌, drop, map}
use Rattle.plus_state.specs.Stops.{due_of}
use Rattle.plus_timeline.specs.Literals.{puts_of}
use Rattle.plus_timeline.proofs.literals.puts.Given as goal

abbrev pub invariant-each : goal.invariant-each
invariant-each g l = map (due_of g.Q.Exact.value) l.due.items ++ puts_of (drop l.literal-index l.literals) ≡ puts_of l.literals
