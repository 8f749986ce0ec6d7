use Rattle.plus_steps.proofs.RowLemmas.{overfull_row}
use Rattle.plus_steps.proofs.rows.overfull_row.Goals as goal

pub returns : goal.returns
returns c = overfull_row
