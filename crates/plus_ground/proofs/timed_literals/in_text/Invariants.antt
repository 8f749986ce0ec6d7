use Rattle.std.proofs.Common.{◌≡◌, map, take}
use Rattle.std.specs.List.{flat_map}
use Rattle.plus_types.specs.Faults.{problem_context}
use Rattle.plus_state.specs.View.{timed_of}
use Rattle.plus_expansion.specs.Expansion.{timed_by}
use Rattle.plus_ground.proofs.timed_literals.in_text.Given as goal

-- those of the members so far
abbrev pub invariant-members : goal.invariant-members
invariant-members g l =
    map (timed_of g.Q.Exact.value) l.literals.items
    ≡ flat_map (timed_by (problem_context l.numbering.typed.now.domain l.numbering.typed.now.problem)) (take l.member-index l.inits)
