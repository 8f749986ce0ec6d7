use Rattle.std.proofs.Common.{Ok}
use Rattle.plus_number.specs.Frac.{fraction_of}
use Rattle.plus_io.specs.declared.fault.Failed.{Failed}
use Rattle.plus_report.specs.Puts.{Puts}
use Rattle.plus_report.specs.Text.{lines_below}
use Rattle.plus_watch.specs.Watched.{constraints_of, places_of}
use Rattle.plus_watch_lines.specs.Lines.{line_at}
use Rattle.plus_watch_lines.proofs.found.put_lines.Given as goal

abbrev pub invariant-each : goal.invariant-each
invariant-each g l =
    Puts {T = Unit {0}} {E = Failed} g.O.Sink.taken g.O.Sink.faults l.fn.out l.out l.fn.waiting.items l.waiting.items
    (lines_below (line_at (constraints_of fraction_of l.watched) (places_of fraction_of l.firsts)) l.index) (Ok tt)
