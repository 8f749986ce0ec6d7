use Rattle.std.proofs.Common.{◌≡◌, ◌++◌, true, map, take}
use Rattle.plus_types.specs.Faults.{problem_context}
use Rattle.plus_state.specs.View.{effect_of}
use Rattle.plus_expansion.specs.Expansion.{condition_meant, leaf_meant}
use Rattle.plus_ground.proofs.effects.guarded.Given as goal

-- the leaves so far are added
abbrev pub invariant-leaves : goal.invariant-leaves
invariant-leaves g l =
    map (effect_of g.Q.Exact.value) l.into.items
    ≡ map (effect_of g.Q.Exact.value) l.fn.into.items
    ++ map (leaf_meant (problem_context l.numbering.typed.now.domain l.numbering.typed.now.problem) l.env
    (condition_meant (problem_context l.numbering.typed.now.domain l.numbering.typed.now.problem) l.env true l.guard)) (take l.leaf-index l.leaves)
