use Rattle.std.proofs.Common.{◌≡◌, ◌++◌, ◌∷◌, [], length, map, take}
use Rattle.std.specs.List.{flat_map}
use Rattle.plus_types.specs.Faults.{problem_context}
use Rattle.plus_state.specs.View.{action_of}
use Rattle.plus_expansion.specs.Environments.{environments}
use Rattle.plus_expansion.specs.Expansion.{action_meant}
use Rattle.plus_actions.proofs.instances.+add_actions.Given as goal

abbrev pub decreases-add_actions : goal.decreases-add_actions
decreases-add_actions g l = length l.params.now

-- those of the members so far are added, and nothing else is bound
abbrev pub invariant-members : goal.invariant-members
invariant-members g l =
    (map (action_of g.Q.Exact.value) l.into.items
    ≡ map (action_of g.Q.Exact.value) l.fn.into.items
    ++ flat_map (λ o. map (action_meant (problem_context l.numbering.typed.now.domain l.numbering.typed.now.problem) l.schema) (environments (problem_context l.numbering.typed.now.domain l.numbering.typed.now.problem) l.rest (l.fn.env ++ (l.name, o) ∷ []))) (take l.member-index l.member-items))
    × (l.env ≡ l.fn.env)
