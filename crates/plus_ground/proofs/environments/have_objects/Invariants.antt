use Rattle.std.proofs.Common.{◌≡◌, drop}
use Rattle.plus_types.specs.Faults.{problem_context}
use Rattle.plus_ground.specs.Nothing.{have_objects}
use Rattle.plus_ground.proofs.environments.have_objects.Given as goal

-- each variable passed has an object
abbrev pub invariant-vars : goal.invariant-vars
invariant-vars l =
    have_objects (problem_context l.numbering.typed.now.domain l.numbering.typed.now.problem) l.vars
    ≡ have_objects (problem_context l.numbering.typed.now.domain l.numbering.typed.now.problem) (drop l.var-index l.vars)
