use Rattle.rows.proofs.TimeLemmas.HistoryRows.{answer_row}
use Rattle.rows.proofs.time.histories.answer_row.Goals as goal

pub returns : goal.returns
returns c = answer_row
