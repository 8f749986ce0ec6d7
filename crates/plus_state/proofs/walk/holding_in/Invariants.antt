use Rattle.std.proofs.Common.{map, drop}
use Rattle.plus_state.specs.View.{problem_of}
use Rattle.plus_state.specs.Looked.{looked_numbers}
use Rattle.plus_state.proofs.LookingLemmas.{Looking}
use Rattle.plus_state.proofs.walk.holding_in.Given as goal

abbrev pub invariant-each : goal.invariant-each
invariant-each g l =
    let looked = looked_numbers g.I.Conditional.number l.looked in
    Looking g.Q.Exact.fits (map g.I.Conditional.number l.found.items) (drop l.place looked) looked (g.I.Conditional.conditions (problem_of g.Q.Exact.value l.ground)) l.state
