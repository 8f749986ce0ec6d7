use Rattle.std.proofs.Common.{◌≡◌, ◌++◌, map, take}
use Rattle.plus_types.specs.Faults.{problem_context}
use Rattle.plus_expansion.specs.Objects.{extents_of, tuples, object_names}
use Rattle.plus_expansion.specs.Numbers.{label_of}
use Rattle.plus_numbering.proofs.labels.add_labels.Given as goal

abbrev pub invariant-places : goal.invariant-places
invariant-places l =
    l.labels.items ≡ l.initial.labels.items
    ++ map (λ t. label_of l.head.name.name (object_names (problem_context l.extents.typed.now.domain l.extents.typed.now.problem) t))
    (take l.place (tuples (extents_of (problem_context l.extents.typed.now.domain l.extents.typed.now.problem) l.head.params)))
