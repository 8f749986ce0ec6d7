use Rattle.std.proofs.Common.{◌≡◌, take}
use Rattle.plus_types.specs.Faults.{problem_context}
use Rattle.plus_expansion.specs.Expansion.{initial_state}
use Rattle.plus_ground.proofs.initial.initial.Given as goal

-- the members so far are entered
abbrev pub invariant-members : goal.invariant-members
invariant-members g l = l.state ≡ initial_state (problem_context l.numbering.typed.now.domain l.numbering.typed.now.problem) (take l.member-index l.inits)
