use Rattle.rows.proofs.ModelLemmas.DoorRow.{unknown_row}
use Rattle.rows.proofs.model.breaches.unknown_row.Goals as goal

pub returns : goal.returns
returns c = unknown_row
