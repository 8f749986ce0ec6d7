use Rattle.std.proofs.Common.{◌≡◌, map, take}
use Rattle.plus_types.specs.Faults.{problem_context}
use Rattle.plus_state.specs.View.{condition_of}
use Rattle.plus_expansion.specs.Expansion.{condition_meant}
use Rattle.plus_ground.proofs.conditions.+condition.Given as goal

abbrev pub decreases-condition : goal.decreases-condition
decreases-condition g l = goal.size-condition g l

-- the forms of the members so far
abbrev pub invariant-members : goal.invariant-members
invariant-members g l =
    map (condition_of g.Q.Exact.value) l.forms.items
    ≡ map (condition_meant (problem_context l.numbering.typed.now.domain l.numbering.typed.now.problem) l.env l.positive) (take l.member-index l.member-items)

-- the forms of the body for the choices so far
abbrev pub invariant-choices : goal.invariant-choices
invariant-choices g l =
    map (condition_of g.Q.Exact.value) l.forms.items
    ≡ map (λ e. condition_meant (problem_context l.numbering.typed.now.domain l.numbering.typed.now.problem) e l.positive l.body.value) (take l.inner-index l.inner-items)
