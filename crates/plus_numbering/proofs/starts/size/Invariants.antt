use Rattle.std.proofs.Common.{◌≡◌, ◌+◌, ◌*◌, ◌≤◌, min, drop, length}
use Rattle.plus_types.specs.Faults.{problem_context}
use Rattle.plus_expansion.specs.Objects.{extents_of, tuples}
use Rattle.plus_numbering.proofs.starts.size.Given as goal

-- the product so far times the number for the parameters that are left
abbrev pub invariant-params : goal.invariant-params
invariant-params l = record {
  held : min (l.size * length (tuples (extents_of (problem_context l.extents.typed.now.domain l.extents.typed.now.problem) (drop l.param-index l.params)))) (l.most + 1)
      ≡ min (length (tuples (extents_of (problem_context l.extents.typed.now.domain l.extents.typed.now.problem) l.params))) (l.most + 1);
  low : l.size ≤ l.most + 1;
}
