use Rattle.std.proofs.Common.{Ok}
use Rattle.plus_io.specs.declared.fault.Failed.{Failed}
use Rattle.plus_state.specs.View.{labels_of}
use Rattle.plus_report.specs.Puts.{Puts}
use Rattle.plus_report.specs.Text.{lines_below, lost_line}
use Rattle.plus_report.proofs.changes.put_lost.Given as goal

abbrev pub invariant-loop-index : goal.invariant-loop-index
invariant-loop-index g l =
    Puts {T = Unit {0}} {E = Failed} g.O.Sink.taken g.O.Sink.faults l.fn.out l.out l.fn.waiting.items l.waiting.items
    (lines_below (lost_line l.mark (labels_of l.ground).atoms l.before l.after) l.index) (Ok tt)
