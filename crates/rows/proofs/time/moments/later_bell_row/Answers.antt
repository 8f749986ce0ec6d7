use Rattle.rows.proofs.TimeLemmas.MomentRows.{later_bell_row}
use Rattle.rows.proofs.time.moments.later_bell_row.Goals as goal

pub returns : goal.returns
returns c = later_bell_row
