use Rattle.rows.proofs.TimeLemmas.OrderRows.{touching_row}
use Rattle.rows.proofs.time.histories.touching_row.Goals as goal

pub returns : goal.returns
returns c = touching_row
