use Rattle.rows.proofs.TimeLemmas.LineRows.{wrong_row}
use Rattle.rows.proofs.time.lines.wrong_row.Goals as goal

pub returns : goal.returns
returns c = wrong_row
