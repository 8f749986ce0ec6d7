use Rattle.rows.proofs.ModelLemmas.TermRows.{fluent_rows}
use Rattle.rows.proofs.model.terms.fluent_rows.Goals as goal

pub returns : goal.returns
returns c = fluent_rows
