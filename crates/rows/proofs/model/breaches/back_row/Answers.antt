use Rattle.rows.proofs.ModelLemmas.DoorRow.{back_row}
use Rattle.rows.proofs.model.breaches.back_row.Goals as goal

pub returns : goal.returns
returns c = back_row
