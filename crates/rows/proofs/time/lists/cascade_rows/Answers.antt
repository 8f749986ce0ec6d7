use Rattle.rows.proofs.TimeLemmas.ListRows.{cascade_rows}
use Rattle.rows.proofs.time.lists.cascade_rows.Goals as goal

pub returns : goal.returns
returns c = cascade_rows
