use Rattle.rows.proofs.TimeLemmas.SetRows.{falling_row}
use Rattle.rows.proofs.time.sets.falling_row.Goals as goal

pub returns : goal.returns
returns c = falling_row
