use Rattle.std.proofs.Common.{map, drop}
use Rattle.plus_state.specs.View.{problem_of}
use Rattle.plus_state.specs.Looked.{looked_numbers}
use Rattle.plus_stretch.proofs.LookedLemmas.{Sifting}
use Rattle.plus_stretch.proofs.looked.not_simple.Given as goal

abbrev pub invariant-each : goal.invariant-each
invariant-each g l =
    Sifting (g.I.Conditional.conditions (problem_of g.Q.Exact.value l.ground)) l.rates (map g.I.Conditional.number l.found.items) (drop l.place (looked_numbers g.I.Conditional.number l.looked)) (looked_numbers g.I.Conditional.number l.looked)
