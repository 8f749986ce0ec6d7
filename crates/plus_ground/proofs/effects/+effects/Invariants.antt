use Rattle.std.proofs.Common.{◌≡◌, ◌++◌, map, take}
use Rattle.std.specs.List.{flat_map}
use Rattle.plus_types.specs.Faults.{problem_context}
use Rattle.plus_state.specs.View.{effect_of}
use Rattle.plus_expansion.specs.Expansion.{effects_meant}
use Rattle.plus_ground.proofs.effects.+effects.Given as goal

abbrev pub decreases-effects : goal.decreases-effects
decreases-effects g l = goal.size-effects g l

-- the writes of the members so far are added
abbrev pub invariant-members : goal.invariant-members
invariant-members g l =
    map (effect_of g.Q.Exact.value) l.into.items
    ≡ map (effect_of g.Q.Exact.value) l.fn.into.items
    ++ flat_map (effects_meant (problem_context l.numbering.typed.now.domain l.numbering.typed.now.problem) l.env) (take l.member-index l.member-items)

-- the writes of the body for the choices so far are added
abbrev pub invariant-choices : goal.invariant-choices
invariant-choices g l =
    map (effect_of g.Q.Exact.value) l.into.items
    ≡ map (effect_of g.Q.Exact.value) l.fn.into.items
    ++ flat_map (λ e. effects_meant (problem_context l.numbering.typed.now.domain l.numbering.typed.now.problem) e l.body.value) (take l.inner-index l.inner-items)
