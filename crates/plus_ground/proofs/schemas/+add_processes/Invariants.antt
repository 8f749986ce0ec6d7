use Rattle.std.proofs.Common.{◌≡◌, ◌++◌, ◌∷◌, [], length, map, take}
use Rattle.std.specs.List.{flat_map}
use Rattle.plus_types.specs.Faults.{problem_context}
use Rattle.plus_state.specs.View.{process_of}
use Rattle.plus_expansion.specs.Environments.{environments}
use Rattle.plus_expansion.specs.Expansion.{process_meant}
use Rattle.plus_ground.proofs.schemas.+add_processes.Given as goal

abbrev pub decreases-add_processes : goal.decreases-add_processes
decreases-add_processes g l = length l.params.now

-- those of the members so far are added, and nothing else is bound
abbrev pub invariant-members : goal.invariant-members
invariant-members g l =
    (map (process_of g.Q.Exact.value) l.into.items
    ≡ map (process_of g.Q.Exact.value) l.fn.into.items
    ++ flat_map (λ o. map (process_meant (problem_context l.numbering.typed.now.domain l.numbering.typed.now.problem) l.schema) (environments (problem_context l.numbering.typed.now.domain l.numbering.typed.now.problem) l.rest (l.fn.env ++ (l.name, o) ∷ []))) (take l.member-index l.member-items))
    × (l.env ≡ l.fn.env)
