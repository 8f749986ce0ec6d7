use Rattle.rows.proofs.TimeLemmas.ListRows.{order_rows}
use Rattle.rows.proofs.time.lists.order_rows.Goals as goal

pub returns : goal.returns
returns c = order_rows
