use Rattle.rows.proofs.ModelLemmas.DoorRow.{empty_row}
use Rattle.rows.proofs.model.breaches.empty_row.Goals as goal

pub returns : goal.returns
returns c = empty_row
