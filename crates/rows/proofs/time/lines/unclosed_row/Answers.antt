use Rattle.rows.proofs.TimeLemmas.LineRows.{unclosed_row}
use Rattle.rows.proofs.time.lines.unclosed_row.Goals as goal

pub returns : goal.returns
returns c = unclosed_row
