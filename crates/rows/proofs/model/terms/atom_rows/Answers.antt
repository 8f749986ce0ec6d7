use Rattle.rows.proofs.ModelLemmas.TermRows.{atom_rows}
use Rattle.rows.proofs.model.terms.atom_rows.Goals as goal

pub returns : goal.returns
returns c = atom_rows
