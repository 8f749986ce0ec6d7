use Rattle.rows.proofs.ModelLemmas.DoorRow.{locked_row}
use Rattle.rows.proofs.model.breaches.locked_row.Goals as goal

pub returns : goal.returns
returns c = locked_row
