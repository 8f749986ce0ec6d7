use Rattle.rows.proofs.ReportsLemmas.MomentRows.{changes_row}
use Rattle.rows.proofs.reports.moments.changes_row.Goals as goal

pub returns : goal.returns
returns c = changes_row
