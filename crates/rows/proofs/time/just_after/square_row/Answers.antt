use Rattle.rows.proofs.TimeLemmas.JustAfterRows.{square_row}
use Rattle.rows.proofs.time.just_after.square_row.Goals as goal

pub returns : goal.returns
returns c = square_row
