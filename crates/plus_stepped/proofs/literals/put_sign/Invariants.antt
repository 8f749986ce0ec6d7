use Rattle.std.proofs.Common.{map, drop}
use Rattle.plus_state.specs.View.{timed_of}
use Rattle.plus_stepped.proofs.PuttingLemmas.{Putting}
use Rattle.plus_stepped.proofs.literals.put_sign.Given as goal

abbrev pub invariant-each : goal.invariant-each
invariant-each g l =
    Putting l.positive (map (timed_of g.Q.Exact.value) (drop l.literal-index l.due)) (map (timed_of g.Q.Exact.value) l.due) l.state l.initial.state
