use Rattle.rows.proofs.ModelLemmas.TermRows.{holds_rows}
use Rattle.rows.proofs.model.terms.holds_rows.Goals as goal

pub returns : goal.returns
returns c = holds_rows
