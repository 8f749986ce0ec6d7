use Rattle.rows.proofs.GroundRows.{object_rows}
use Rattle.rows.proofs.expansion.object_rows.Goals as goal

pub returns : goal.returns
returns c = object_rows
