use Rattle.rows.proofs.TimeLemmas.LineRows.{open_row}
use Rattle.rows.proofs.time.lines.open_row.Goals as goal

pub returns : goal.returns
returns c = open_row
