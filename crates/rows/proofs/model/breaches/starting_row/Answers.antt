use Rattle.rows.proofs.ModelLemmas.GrowRow.{starting_row}
use Rattle.rows.proofs.model.breaches.starting_row.Goals as goal

pub returns : goal.returns
returns c = starting_row
