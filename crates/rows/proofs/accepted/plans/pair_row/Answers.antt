use Rattle.rows.proofs.AcceptedLemmas.PairRow.{pair_row}
use Rattle.rows.proofs.accepted.plans.pair_row.Goals as goal

pub returns : goal.returns
returns c = pair_row
