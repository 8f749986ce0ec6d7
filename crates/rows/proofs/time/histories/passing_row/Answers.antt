use Rattle.rows.proofs.TimeLemmas.StartRows.{passing_row}
use Rattle.rows.proofs.time.histories.passing_row.Goals as goal

pub returns : goal.returns
returns c = passing_row
