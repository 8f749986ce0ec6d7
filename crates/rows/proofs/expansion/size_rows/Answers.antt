use Rattle.rows.proofs.GroundRows.{size_rows}
use Rattle.rows.proofs.expansion.size_rows.Goals as goal

pub returns : goal.returns
returns c = size_rows
