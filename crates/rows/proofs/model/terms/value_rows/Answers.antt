use Rattle.rows.proofs.ModelLemmas.TermRows.{value_rows}
use Rattle.rows.proofs.model.terms.value_rows.Goals as goal

pub returns : goal.returns
returns c = value_rows
