use Rattle.std.proofs.Common.{◌≡◌, Ok, map, take}
use Rattle.std.specs.List.{flat_map}
use Rattle.plus_io.specs.declared.fault.Failed.{Failed}
use Rattle.plus_state.specs.ChangesView.{fluent_change, fluent_changes}
use Rattle.plus_state.specs.View.{labels_of}
use Rattle.plus_report.specs.Puts.{Puts}
use Rattle.plus_report.proofs.ChangedLemmas.{value_change}
use Rattle.plus_report.proofs.listed.put_listed_fluents.Given as goal

abbrev pub invariant-each : goal.invariant-each
invariant-each g l = record {
  listed : fluent_changes g.Q.Exact.value l.change-items ≡ l.changes.fluents;
  so_far : Puts {T = Unit {0}} {E = Failed} g.O.Sink.taken g.O.Sink.faults l.fn.out l.out l.fn.waiting.items l.waiting.items
      (flat_map (value_change l.indent (labels_of l.ground).fluents l.before) (map (fluent_change g.Q.Exact.value) (take l.change-index l.change-items))) (Ok tt);
}
