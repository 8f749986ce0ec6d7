use Rattle.rows.proofs.TimeLemmas.LineRows.{back_row}
use Rattle.rows.proofs.time.lines.back_row.Goals as goal

pub returns : goal.returns
returns c = back_row
