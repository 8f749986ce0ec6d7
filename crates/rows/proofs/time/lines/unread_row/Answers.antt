use Rattle.rows.proofs.TimeLemmas.LineRows.{unread_row}
use Rattle.rows.proofs.time.lines.unread_row.Goals as goal

pub returns : goal.returns
returns c = unread_row
