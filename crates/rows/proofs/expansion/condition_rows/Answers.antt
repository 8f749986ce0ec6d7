use Rattle.rows.proofs.GroundRows.{condition_rows}
use Rattle.rows.proofs.expansion.condition_rows.Goals as goal

pub returns : goal.returns
returns c = condition_rows
