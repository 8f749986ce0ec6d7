use Rattle.rows.proofs.AcceptedLemmas.WorkedRows.{refused_row}
use Rattle.rows.proofs.accepted.plans.refused_row.Goals as goal

pub returns : goal.returns
returns c = refused_row
