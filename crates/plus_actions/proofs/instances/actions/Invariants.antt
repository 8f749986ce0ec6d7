use Rattle.std.proofs.Common.{◌≡◌, map, take}
use Rattle.plus_types.specs.Faults.{problem_context}
use Rattle.plus_state.specs.View.{action_of}
use Rattle.plus_expansion.specs.Expansion.{action_meant, instances_of}
use Rattle.plus_actions.proofs.instances.actions.Given as goal

-- those of the schemas so far
abbrev pub invariant-schemas : goal.invariant-schemas
invariant-schemas g l =
    map (action_of g.Q.Exact.value) l.actions.items
    ≡ instances_of (problem_context l.numbering.typed.now.domain l.numbering.typed.now.problem)
    (action_meant (problem_context l.numbering.typed.now.domain l.numbering.typed.now.problem)) (take l.schema-index l.schemas)
