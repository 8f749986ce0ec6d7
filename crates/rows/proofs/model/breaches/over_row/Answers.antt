use Rattle.rows.proofs.ModelLemmas.UpRows.{over_row}
use Rattle.rows.proofs.model.breaches.over_row.Goals as goal

pub returns : goal.returns
returns c = over_row
