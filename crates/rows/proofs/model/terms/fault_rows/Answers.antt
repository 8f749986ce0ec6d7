use Rattle.rows.proofs.ModelLemmas.TermRows.{fault_rows}
use Rattle.rows.proofs.model.terms.fault_rows.Goals as goal

pub returns : goal.returns
returns c = fault_rows
