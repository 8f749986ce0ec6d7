use Rattle.std.proofs.Common.{◌≡◌, map, take}
use Rattle.plus_types.specs.Faults.{problem_context}
use Rattle.plus_state.specs.View.{event_of}
use Rattle.plus_expansion.specs.Expansion.{event_meant, instances_of}
use Rattle.plus_ground.proofs.schemas.events.Given as goal

-- those of the schemas so far
abbrev pub invariant-schemas : goal.invariant-schemas
invariant-schemas g l =
    map (event_of g.Q.Exact.value) l.events.items
    ≡ instances_of (problem_context l.numbering.typed.now.domain l.numbering.typed.now.problem)
    (event_meant (problem_context l.numbering.typed.now.domain l.numbering.typed.now.problem)) (take l.schema-index l.schemas)
