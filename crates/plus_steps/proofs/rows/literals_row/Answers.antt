use Rattle.plus_steps.proofs.RowLemmas.{literals_row}
use Rattle.plus_steps.proofs.rows.literals_row.Goals as goal

pub returns : goal.returns
returns c = literals_row
