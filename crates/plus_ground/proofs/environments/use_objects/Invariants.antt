use Rattle.std.proofs.Common.{◌≡◌, map, take}
use Rattle.plus_types.specs.Faults.{problem_context}
use Rattle.plus_expansion.specs.Environments.{term_object}
use Rattle.plus_ground.proofs.environments.use_objects.Given as goal

-- the objects of the arguments so far
abbrev pub invariant-terms : goal.invariant-terms
invariant-terms l =
    l.objects.items ≡ map (term_object (problem_context l.numbering.typed.now.domain l.numbering.typed.now.problem) l.env) (take l.term-index l.term-items)
