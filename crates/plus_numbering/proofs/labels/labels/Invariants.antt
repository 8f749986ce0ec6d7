use Rattle.std.proofs.Common.{◌≡◌, ◌++◌, drop}
use Rattle.plus_types.specs.Faults.{problem_context}
use Rattle.plus_expansion.specs.Numbers.{ground_labels}
use Rattle.plus_numbering.proofs.labels.labels.Given as goal

abbrev pub invariant-heads : goal.invariant-heads
invariant-heads l =
    l.labels.items ++ ground_labels (problem_context l.extents.typed.now.domain l.extents.typed.now.problem) (drop l.i l.heads)
    ≡ ground_labels (problem_context l.extents.typed.now.domain l.extents.typed.now.problem) l.heads
