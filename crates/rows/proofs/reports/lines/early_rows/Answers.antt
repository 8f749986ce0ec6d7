use Rattle.rows.proofs.ReportsLemmas.LineRows.{early_rows}
use Rattle.rows.proofs.reports.lines.early_rows.Goals as goal

pub returns : goal.returns
returns c = early_rows
