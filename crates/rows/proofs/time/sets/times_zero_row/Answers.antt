use Rattle.rows.proofs.TimeLemmas.SetRows.{times_zero_row}
use Rattle.rows.proofs.time.sets.times_zero_row.Goals as goal

pub returns : goal.returns
returns c = times_zero_row
