use Rattle.rows.proofs.ModelLemmas.DoorRow.{wrong_row}
use Rattle.rows.proofs.model.breaches.wrong_row.Goals as goal

pub returns : goal.returns
returns c = wrong_row
