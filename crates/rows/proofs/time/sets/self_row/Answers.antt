use Rattle.rows.proofs.TimeLemmas.SetRows.{self_row}
use Rattle.rows.proofs.time.sets.self_row.Goals as goal

pub returns : goal.returns
returns c = self_row
