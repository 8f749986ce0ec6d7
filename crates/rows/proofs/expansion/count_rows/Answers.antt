use Rattle.rows.proofs.CountRows.{count_rows}
use Rattle.rows.proofs.expansion.count_rows.Goals as goal

pub returns : goal.returns
returns c = count_rows
