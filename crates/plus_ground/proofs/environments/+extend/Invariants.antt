use Rattle.std.proofs.Common.{◌≡◌, ◌++◌, ◌∷◌, [], length, take}
use Rattle.std.specs.List.{flat_map}
use Rattle.plus_types.specs.Faults.{problem_context}
use Rattle.plus_expansion.specs.Environments.{environments}
use Rattle.plus_ground.proofs.environments.+extend.Given as goal

abbrev pub decreases-extend : goal.decreases-extend
decreases-extend l = length l.vars.now

-- the environments of the members so far are added
abbrev pub invariant-members : goal.invariant-members
invariant-members l =
    l.into.items ≡ l.fn.into.items ++ flat_map (λ o. environments (problem_context l.numbering.typed.now.domain l.numbering.typed.now.problem) l.rest (l.fn.env ++ (l.name, o) ∷ [])) (take l.member-index l.member-items)
