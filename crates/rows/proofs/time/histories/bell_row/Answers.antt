use Rattle.rows.proofs.TimeLemmas.HistoryRows.{bell_row}
use Rattle.rows.proofs.time.histories.bell_row.Goals as goal

pub returns : goal.returns
returns c = bell_row
