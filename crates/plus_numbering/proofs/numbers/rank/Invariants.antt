use Rattle.std.proofs.Common.{◌≡◌, ◌+◌, ◌*◌, ◌<◌, ◌≤◌, drop, length}
use Rattle.std.specs.List.{position_or_len}
use Rattle.std.specs.Str.{bytes_eq}
use Rattle.plus_types.specs.Faults.{problem_context}
use Rattle.plus_expansion.specs.Objects.{extents_of, tuples}
use Rattle.plus_numbering.proofs.RankLemmas.{placed}
use Rattle.plus_numbering.proofs.numbers.rank.Given as goal

-- the place of the whole, by that of the objects that are left among the lists of those parameters that are left
abbrev pub invariant-params : goal.invariant-params
invariant-params l = record {
  found : position_or_len (bytes_eq l.objects) (tuples (extents_of (problem_context l.extents.typed.now.domain l.extents.typed.now.problem) l.params))
      ≡ placed l.size l.rank (extents_of (problem_context l.extents.typed.now.domain l.extents.typed.now.problem) (drop l.i l.params)) (drop l.i l.objects);
  some : 0 < length (tuples (extents_of (problem_context l.extents.typed.now.domain l.extents.typed.now.problem) (drop l.i l.params)));
  few : (l.rank + 1) * length (tuples (extents_of (problem_context l.extents.typed.now.domain l.extents.typed.now.problem) (drop l.i l.params))) ≤ l.size;
}
