use Rattle.std.proofs.Common.{Ok, take}
use Rattle.plus_io.specs.declared.fault.Failed.{Failed}
use Rattle.plus_state.specs.View.{problem_of}
use Rattle.plus_report.specs.Labels.{process_label}
use Rattle.plus_report.specs.Puts.{Puts}
use Rattle.plus_report.specs.Shown.{process_numbers}
use Rattle.plus_report.specs.Text.{labels_text}
use Rattle.plus_report.proofs.parts.put_processes.Given as goal

abbrev pub invariant-loop-process : goal.invariant-loop-process
invariant-loop-process g l =
    Puts {T = Unit {0}} {E = Failed} g.O.Sink.taken g.O.Sink.faults l.fn.out l.out l.fn.waiting.items l.waiting.items
    (labels_text (process_label (problem_of g.Q.Exact.value l.ground)) (process_numbers (take l.process-index l.members))) (Ok tt)
