use Rattle.std.proofs.Common.{map, drop}
use Rattle.plus_state.specs.View.{timed_of}
use Rattle.plus_never.specs.Adds.{literal_sets}
use Rattle.plus_cut.proofs.MarkLemmas.{Marking}
use Rattle.plus_cut.proofs.marks.mark_literals.Given as goal

abbrev pub invariant-literals : goal.invariant-literals
invariant-literals g l =
    Marking l.initial.marks l.marks (λ a. literal_sets a (map (timed_of g.Q.Exact.value) l.literals))
    (λ a. literal_sets a (map (timed_of g.Q.Exact.value) (drop l.literal-index l.literals)))
