use Rattle.rows.proofs.AcceptedLemmas.WorkedRows.{accepted_row}
use Rattle.rows.proofs.accepted.plans.accepted_row.Goals as goal

pub returns : goal.returns
returns c = accepted_row
