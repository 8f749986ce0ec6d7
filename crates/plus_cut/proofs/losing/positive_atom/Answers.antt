use Rattle.std.proofs.Common.{true, false, refl}
use Rattle.plus_state.proofs.TestsLemmas.{all_view, any_view}
use Rattle.plus_cut.proofs.LosingLemmas.{atom_kept, atom_left, pairs_left}
use Rattle.plus_cut.proofs.losing.positive_atom.Goals as goal

pub returns-then-positive : goal.returns-then-positive
returns-then-positive g c = atom_kept g.Q.Exact.value c.args.member.now c.in-Atom.atom c.in-Atom.positive c.in-Atom.is c.if-positive.true

pub returns-else-positive : goal.returns-else-positive
returns-else-positive g c = atom_left g.Q.Exact.value c.args.member.now c.in-Atom.atom c.in-Atom.positive c.in-Atom.is c.if-positive.false

pub returns-in-All : goal.returns-in-All
returns-in-All g c = pairs_left true _ _ (all_view g.Q.Exact.value c.args.member.now c.in-All.field-0 c.in-All.field-0.items c.in-All.is refl)

pub returns-in-Any : goal.returns-in-Any
returns-in-Any g c = pairs_left false _ _ (any_view g.Q.Exact.value c.args.member.now c.in-Any.field-0 c.in-Any.field-0.items c.in-Any.is refl)
