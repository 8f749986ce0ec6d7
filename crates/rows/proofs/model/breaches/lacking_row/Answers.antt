use Rattle.rows.proofs.ModelLemmas.GrowRow.{lacking_row}
use Rattle.rows.proofs.model.breaches.lacking_row.Goals as goal

pub returns : goal.returns
returns c = lacking_row
