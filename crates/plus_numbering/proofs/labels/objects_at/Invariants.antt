use Rattle.std.proofs.Common.{◌≡◌, ◌<◌, [], ◌++◌, drop, length, get_or}
use Rattle.plus_types.specs.Faults.{problem_context}
use Rattle.plus_expansion.specs.Objects.{extents_of, tuples}
use Rattle.plus_numbering.proofs.labels.objects_at.Given as goal

-- the objects so far, and the list that stands at what is left among those of the parameters that are left
abbrev pub invariant-params : goal.invariant-params
invariant-params l = record {
  many : l.step ≡ length (tuples (extents_of (problem_context l.extents.typed.now.domain l.extents.typed.now.problem) (drop l.i l.params)));
  within : l.left < l.step;
  found : l.objects.items ++ get_or (tuples (extents_of (problem_context l.extents.typed.now.domain l.extents.typed.now.problem) (drop l.i l.params))) l.left []
      ≡ get_or (tuples (extents_of (problem_context l.extents.typed.now.domain l.extents.typed.now.problem) l.params)) l.place [];
}
