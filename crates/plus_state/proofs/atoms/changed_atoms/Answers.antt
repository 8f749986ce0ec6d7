use Rattle.std.proofs.Common.{map, refl}
use Rattle.plus_state.specs.Stops.{due_of}
use Rattle.plus_state.specs.ChangesView.{atom_changes}
use Rattle.plus_state.proofs.ChangesLemmas.{atoms_in, atoms_same}
use Rattle.plus_state.proofs.atoms.changed_atoms.Goals as goal

pub returns-clause-inside : goal.returns-clause-inside
returns-clause-inside g c =
    atoms_in (map (due_of g.Q.Exact.value) c.args.due.now) (atom_changes c.in_ok-puts.puts.items) (atom_changes c.in_ok-changes.changes.items) c.in_ok-puts.ensures (rw c.deref-2.ensures.value at c.in_ok-changes.ensures.inside)

pub returns-clause-same : goal.returns-clause-same
returns-clause-same g c =
    atoms_same (map (due_of g.Q.Exact.value) c.args.due.now) (atom_changes c.in_ok-puts.puts.items) (atom_changes c.in_ok-changes.changes.items) c.in_ok-puts.ensures (rw c.deref-2.ensures.value at c.in_ok-changes.ensures.same)

pub returns-then-are_once-clause-inside : goal.returns-then-are_once-clause-inside
returns-then-are_once-clause-inside g c =
    atoms_in (map (due_of g.Q.Exact.value) c.args.due.now) (atom_changes c.in_ok-puts.puts.items) (atom_changes c.in_ok-puts.puts.items) c.in_ok-puts.ensures (λ n i. i)

pub returns-then-are_once-clause-same : goal.returns-then-are_once-clause-same
returns-then-are_once-clause-same g c =
    atoms_same (map (due_of g.Q.Exact.value) c.args.due.now) (atom_changes c.in_ok-puts.puts.items) (atom_changes c.in_ok-puts.puts.items) c.in_ok-puts.ensures (λ bs. refl)
