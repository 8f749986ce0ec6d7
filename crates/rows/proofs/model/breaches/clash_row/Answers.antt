use Rattle.rows.proofs.ModelLemmas.UpRows.{clash_row}
use Rattle.rows.proofs.model.breaches.clash_row.Goals as goal

pub returns : goal.returns
returns c = clash_row
