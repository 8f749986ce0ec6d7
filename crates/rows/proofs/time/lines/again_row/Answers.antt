use Rattle.rows.proofs.TimeLemmas.LineRows.{again_row}
use Rattle.rows.proofs.time.lines.again_row.Goals as goal

pub returns : goal.returns
returns c = again_row
