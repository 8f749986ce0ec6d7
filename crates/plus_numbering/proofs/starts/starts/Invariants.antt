use Rattle.std.proofs.Common.{◌≡◌, ◌+◌, ◌≤◌, ◌++◌, drop}
use Rattle.plus_types.specs.Faults.{problem_context}
use Rattle.plus_numbering.specs.Tables.{starts_from}
use Rattle.plus_numbering.proofs.SizeLemmas.{count}
use Rattle.plus_numbering.proofs.starts.starts.Given as goal

-- with those that are still to come, the starts are all
abbrev pub invariant-heads : goal.invariant-heads
invariant-heads l = record {
  low : l.start ≤ l.most;
  table : l.starts.items ++ starts_from (problem_context l.extents.typed.now.domain l.extents.typed.now.problem) l.start (drop l.head-index l.heads)
      ≡ starts_from (problem_context l.extents.typed.now.domain l.extents.typed.now.problem) 0 l.heads;
  rest : l.start + count (problem_context l.extents.typed.now.domain l.extents.typed.now.problem) (drop l.head-index l.heads)
      ≡ count (problem_context l.extents.typed.now.domain l.extents.typed.now.problem) l.heads;
}
