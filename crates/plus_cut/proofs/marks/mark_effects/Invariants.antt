use Rattle.std.proofs.Common.{map, drop}
use Rattle.plus_state.specs.View.{effect_of}
use Rattle.plus_never.specs.Adds.{some_adds}
use Rattle.plus_cut.proofs.MarkLemmas.{Marking}
use Rattle.plus_cut.proofs.marks.mark_effects.Given as goal

abbrev pub invariant-effects : goal.invariant-effects
invariant-effects g l =
    Marking l.initial.marks l.marks (λ a. some_adds a (map (effect_of g.Q.Exact.value) l.effects))
    (λ a. some_adds a (map (effect_of g.Q.Exact.value) (drop l.effect-index l.effects)))
