use Rattle.std.proofs.Common.{◌++◌, drop}
use Rattle.plus_state.specs.Numbers.{process_numbers}
use Rattle.plus_stretch.specs.Marked.{marks_of, owning_processes}
use Rattle.plus_stretch.proofs.Marks.{Appending}
use Rattle.plus_stretch.proofs.looked.with_processes.Given as goal

abbrev pub invariant-processes : goal.invariant-processes
invariant-processes g l = Appending l.numbers.items (process_numbers (drop l.process-index l.processes)) (process_numbers l.processes)

abbrev pub invariant-marks : goal.invariant-marks
invariant-marks g l = Appending l.numbers.items (owning_processes (marks_of g.Q.Exact.value (drop l.mark-index l.marks))) (process_numbers l.processes ++ owning_processes (marks_of g.Q.Exact.value l.marks))
