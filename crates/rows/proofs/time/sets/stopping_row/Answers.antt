use Rattle.rows.proofs.TimeLemmas.SetRows.{stopping_row}
use Rattle.rows.proofs.time.sets.stopping_row.Goals as goal

pub returns : goal.returns
returns c = stopping_row
