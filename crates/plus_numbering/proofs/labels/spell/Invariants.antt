use Rattle.std.proofs.Common.{◌≡◌, [], ◌∷◌, ◌++◌, drop}
use Rattle.plus_types.specs.Faults.{problem_context}
use Rattle.plus_expansion.specs.Objects.{object_names}
use Rattle.plus_expansion.specs.Numbers.{spaced}
use Rattle.plus_numbering.proofs.labels.spell.Given as goal

-- with the names that are still to come, the text is the label
abbrev pub invariant-objects : goal.invariant-objects
invariant-objects l =
    l.text.items ++ (spaced (object_names (problem_context l.extents.typed.now.domain l.extents.typed.now.problem) (drop l.object-index l.objects)) ++ 41 ∷ [])
    ≡ l.fn.text.items ++ (spaced (object_names (problem_context l.extents.typed.now.domain l.extents.typed.now.problem) l.objects) ++ 41 ∷ [])
