use Rattle.rows.proofs.TimeLemmas.LineRows.{unknown_row}
use Rattle.rows.proofs.time.lines.unknown_row.Goals as goal

pub returns : goal.returns
returns c = unknown_row
