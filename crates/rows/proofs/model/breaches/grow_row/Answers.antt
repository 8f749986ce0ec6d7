use Rattle.rows.proofs.ModelLemmas.GrowRow.{grow_row}
use Rattle.rows.proofs.model.breaches.grow_row.Goals as goal

pub returns : goal.returns
returns c = grow_row
