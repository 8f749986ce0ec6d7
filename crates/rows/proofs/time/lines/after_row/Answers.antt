use Rattle.rows.proofs.TimeLemmas.LineRows.{after_row}
use Rattle.rows.proofs.time.lines.after_row.Goals as goal

pub returns : goal.returns
returns c = after_row
