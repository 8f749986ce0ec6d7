use Rattle.rows.proofs.ModelLemmas.UpRows.{at_once_row}
use Rattle.rows.proofs.model.breaches.at_once_row.Goals as goal

pub returns : goal.returns
returns c = at_once_row
