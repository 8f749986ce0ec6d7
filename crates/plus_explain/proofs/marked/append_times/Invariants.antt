-- As many bytes as were counted are appended.
use Rattle.std.proofs.Common.{◌≡◌, ◌++◌, replicate}
use Rattle.plus_explain.proofs.marked.append_times.Given as goal

abbrev pub invariant-loop-column : goal.invariant-loop-column
invariant-loop-column l = l.into.items ≡ l.initial.into.items ++ replicate l._column l.byte
