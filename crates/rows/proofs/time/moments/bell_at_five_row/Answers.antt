use Rattle.rows.proofs.TimeLemmas.MomentRows.{bell_at_five_row}
use Rattle.rows.proofs.time.moments.bell_at_five_row.Goals as goal

pub returns : goal.returns
returns c = bell_at_five_row
