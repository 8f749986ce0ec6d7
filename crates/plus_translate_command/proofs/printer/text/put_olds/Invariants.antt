use Rattle.std.proofs.Common.{Ok, map, take}
use Rattle.std.specs.List.{flat_map}
use Rattle.plus_io.specs.declared.fault.Failed.{Failed}
use Rattle.plus_report.specs.Puts.{Puts}
use Rattle.plus_translate_command.specs.Printer.Woven.{parts_of, woven_old}
use Rattle.plus_translate_command.proofs.printer.text.put_olds.Given as goal

abbrev pub invariant-each : goal.invariant-each
invariant-each g l =
    Puts {T = Unit {0}} {E = Failed} g.O.Sink.taken g.O.Sink.faults l.fn.out l.out l.fn.waiting.items l.waiting.items
    (flat_map (woven_old l.shared.none.items l.shared.clears.items) (map parts_of (take l.old-index l.olds))) (Ok tt)
