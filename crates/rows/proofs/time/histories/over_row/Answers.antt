use Rattle.rows.proofs.TimeLemmas.HistoryRows.{over_row}
use Rattle.rows.proofs.time.histories.over_row.Goals as goal

pub returns : goal.returns
returns c = over_row
