use Rattle.rows.proofs.GroundRows.{timed_rows}
use Rattle.rows.proofs.expansion.timed_rows.Goals as goal

pub returns : goal.returns
returns c = timed_rows
