use Rattle.rows.proofs.TimeLemmas.OrderRows.{order_row}
use Rattle.rows.proofs.time.histories.order_row.Goals as goal

pub returns : goal.returns
returns c = order_row
