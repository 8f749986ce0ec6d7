use Rattle.rows.proofs.TimeLemmas.SetRows.{cancelling_row}
use Rattle.rows.proofs.time.sets.cancelling_row.Goals as goal

pub returns : goal.returns
returns c = cancelling_row
