use Rattle.rows.proofs.TimeLemmas.StartRows.{reaching_row}
use Rattle.rows.proofs.time.histories.reaching_row.Goals as goal

pub returns : goal.returns
returns c = reaching_row
