use Rattle.rows.proofs.ReportsLemmas.MomentRows.{zero_row}
use Rattle.rows.proofs.reports.moments.zero_row.Goals as goal

pub returns : goal.returns
returns c = zero_row
