use Rattle.rows.proofs.TimeLemmas.HistoryRows.{pair_row}
use Rattle.rows.proofs.time.histories.pair_row.Goals as goal

pub returns : goal.returns
returns c = pair_row
