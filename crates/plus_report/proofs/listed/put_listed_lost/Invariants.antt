use Rattle.std.proofs.Common.{◌≡◌, Ok, map, take, codes}
use Rattle.std.specs.List.{flat_map}
use Rattle.plus_io.specs.declared.fault.Failed.{Failed}
use Rattle.plus_state.specs.ChangesView.{atom_change, atom_changes}
use Rattle.plus_state.specs.View.{labels_of}
use Rattle.plus_report.specs.Puts.{Puts}
use Rattle.plus_report.proofs.ChangedLemmas.{lost_change}
use Rattle.plus_report.proofs.listed.put_listed_lost.Given as goal

abbrev pub invariant-each : goal.invariant-each
invariant-each g l = record {
  listed : atom_changes l.change-items ≡ l.changes.atoms;
  so_far : Puts {T = Unit {0}} {E = Failed} g.O.Sink.taken g.O.Sink.faults l.fn.out l.out l.fn.waiting.items l.waiting.items
      (flat_map (lost_change (codes "    - ") (labels_of l.ground).atoms l.before) (map (atom_change) (take l.change-index l.change-items))) (Ok tt);
}
