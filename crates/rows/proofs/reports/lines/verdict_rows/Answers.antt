use Rattle.rows.proofs.ReportsLemmas.LineRows.{verdict_rows}
use Rattle.rows.proofs.reports.lines.verdict_rows.Goals as goal

pub returns : goal.returns
returns c = verdict_rows
