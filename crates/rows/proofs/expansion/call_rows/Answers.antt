use Rattle.rows.proofs.GroundRows.{call_rows}
use Rattle.rows.proofs.expansion.call_rows.Goals as goal

pub returns : goal.returns
returns c = call_rows
