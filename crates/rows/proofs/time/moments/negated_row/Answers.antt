use Rattle.rows.proofs.TimeLemmas.MomentRows.{negated_row}
use Rattle.rows.proofs.time.moments.negated_row.Goals as goal

pub returns : goal.returns
returns c = negated_row
