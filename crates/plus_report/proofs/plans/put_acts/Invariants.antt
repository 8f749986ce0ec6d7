use Rattle.std.proofs.Common.{Ok, take}
use Rattle.std.specs.List.{flat_map}
use Rattle.plus_io.specs.declared.fault.Failed.{Failed}
use Rattle.plus_report.specs.Puts.{Puts}
use Rattle.plus_report.specs.Plans.{acts_of, act_line}
use Rattle.plus_report.proofs.plans.put_acts.Given as goal

abbrev pub invariant-each : goal.invariant-each
invariant-each g l =
    Puts {T = Unit {0}} {E = Failed} g.O.Sink.taken g.O.Sink.faults l.fn.out l.out l.fn.waiting.items l.waiting.items
    (flat_map act_line (acts_of g.Q.Exact.value (take l.act-index l.acts))) (Ok tt)
