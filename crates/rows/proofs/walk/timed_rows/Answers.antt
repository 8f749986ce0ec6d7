use Rattle.rows.proofs.WalkRows.{timed_rows}
use Rattle.rows.proofs.walk.timed_rows.Goals as goal

pub returns : goal.returns
returns c = timed_rows
