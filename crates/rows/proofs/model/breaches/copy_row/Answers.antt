use Rattle.rows.proofs.ModelLemmas.MixedRow.{copy_row}
use Rattle.rows.proofs.model.breaches.copy_row.Goals as goal

pub returns : goal.returns
returns c = copy_row
