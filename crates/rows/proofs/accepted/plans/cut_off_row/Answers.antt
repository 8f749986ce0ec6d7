use Rattle.rows.proofs.AcceptedLemmas.WorkedRows.{cut_off_row}
use Rattle.rows.proofs.accepted.plans.cut_off_row.Goals as goal

pub returns : goal.returns
returns c = cut_off_row
