use Rattle.std.proofs.Common.{map}
use Rattle.plus_state.specs.Stops.{due_of}
use Rattle.plus_state.specs.ChangesView.{atom_changes, fluent_changes}
use Rattle.plus_state.specs.WritesView.{write_list}
use Rattle.plus_state.proofs.ChangesLemmas.{writes_in, ends_clash, ends_unfit, ends_pass, ends_state}
use Rattle.plus_state.proofs.joint_effect.changes_by.Goals as goal

pub returns-in-Some-clause-does : goal.returns-in-Some-clause-does
returns-in-Some-clause-does g c =
    ends_clash (map (due_of g.Q.Exact.value) c.args.due.now) (write_list g.Q.Exact.value c.in-Ok-sorted_writes.writes.items) c.args.state.now g.Q.Exact.fits c.in-Ok-sorted_writes.ensures c.requires c.in-Some.fluent.0
    (rw c.deref.ensures.value at c.in-Some.ensures)

pub values-requires-clause-inside : goal.values-requires-clause-inside
values-requires-clause-inside g c =
    rw c.deref-in-None.ensures.value (writes_in (map (due_of g.Q.Exact.value) c.args.due.now) (write_list g.Q.Exact.value c.in-Ok-sorted_writes.writes.items) c.args.state.now c.in-Ok-sorted_writes.ensures c.requires)

pub returns-in-Err-Number-clause-does : goal.returns-in-Err-Number-clause-does
returns-in-Err-Number-clause-does g c =
    ends_unfit (map (due_of g.Q.Exact.value) c.args.due.now) (write_list g.Q.Exact.value c.in-Ok-sorted_writes.writes.items) c.args.state.now g.Q.Exact.fits c.in-Ok-sorted_writes.ensures c.requires _
    (rw c.deref.ensures.value at c.in-None.ensures) (rw (c.deref-in-None.ensures.value, c.in-Err-Number.field-0-is) at c.in-Err-Number.ensures)

pub returns-clause-rises : goal.returns-clause-rises
returns-clause-rises g c = record {
  atoms = c.in-Ok.ensures.rises;
  fluents = c.in-Ok-values.ensures.2;
  within = record { atoms_in = c.in-Ok.ensures.inside _ _ c.requires; fluents_in = c.in-Ok-values.ensures.3 };
}

pub returns-clause-does : goal.returns-clause-does
returns-clause-does g c =
    let ds = map (due_of g.Q.Exact.value) c.args.due.now in
    let v = rw c.deref-in-None.ensures.value at c.in-Ok-values.ensures in (
      ends_pass ds _ c.args.state.now g.Q.Exact.fits c.in-Ok-sorted_writes.ensures c.requires (rw c.deref.ensures.value at c.in-None.ensures) v.0,
      ends_state ds _ c.args.state.now g.Q.Exact.fits c.in-Ok-sorted_writes.ensures c.requires (record { atoms = atom_changes c.in-Ok.atoms.items; fluents = fluent_changes g.Q.Exact.value c.in-Ok-values.fluents.items }) (c.in-Ok.ensures.same _) v.1,
    )
