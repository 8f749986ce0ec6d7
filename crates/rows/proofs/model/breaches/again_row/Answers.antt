use Rattle.rows.proofs.ModelLemmas.UpRows.{again_row}
use Rattle.rows.proofs.model.breaches.again_row.Goals as goal

pub returns : goal.returns
returns c = again_row
