use Rattle.rows.proofs.WalkRows.{walk_row}
use Rattle.rows.proofs.walk.walk_row.Goals as goal

pub returns : goal.returns
returns c = walk_row
