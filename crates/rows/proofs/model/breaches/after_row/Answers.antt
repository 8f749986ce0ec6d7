use Rattle.rows.proofs.ModelLemmas.DoorRow.{after_row}
use Rattle.rows.proofs.model.breaches.after_row.Goals as goal

pub returns : goal.returns
returns c = after_row
