use Rattle.rows.proofs.ModelLemmas.GrowRow.{coupled_row}
use Rattle.rows.proofs.model.breaches.coupled_row.Goals as goal

pub returns : goal.returns
returns c = coupled_row
