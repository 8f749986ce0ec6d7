use Rattle.rows.proofs.TimeLemmas.JustAfterRows.{side_rows}
use Rattle.rows.proofs.time.just_after.side_rows.Goals as goal

pub returns : goal.returns
returns c = side_rows
