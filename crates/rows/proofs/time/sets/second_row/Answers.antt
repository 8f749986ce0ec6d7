use Rattle.rows.proofs.TimeLemmas.SetRows.{second_row}
use Rattle.rows.proofs.time.sets.second_row.Goals as goal

pub returns : goal.returns
returns c = second_row
