use Rattle.rows.proofs.GroundRows.{number_rows}
use Rattle.rows.proofs.expansion.number_rows.Goals as goal

pub returns : goal.returns
returns c = number_rows
