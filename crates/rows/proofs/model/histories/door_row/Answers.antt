use Rattle.rows.proofs.ModelLemmas.DoorRow.{door_row}
use Rattle.rows.proofs.model.histories.door_row.Goals as goal

pub returns : goal.returns
returns c = door_row
