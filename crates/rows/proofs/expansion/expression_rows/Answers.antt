use Rattle.rows.proofs.GroundRows.{expression_rows}
use Rattle.rows.proofs.expansion.expression_rows.Goals as goal

pub returns : goal.returns
returns c = expression_rows
