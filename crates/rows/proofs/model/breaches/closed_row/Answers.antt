use Rattle.rows.proofs.ModelLemmas.DoorRow.{closed_row}
use Rattle.rows.proofs.model.breaches.closed_row.Goals as goal

pub returns : goal.returns
returns c = closed_row
