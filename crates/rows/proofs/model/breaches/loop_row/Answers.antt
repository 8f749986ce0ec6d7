use Rattle.rows.proofs.ModelLemmas.TokenRow.{loop_row}
use Rattle.rows.proofs.model.breaches.loop_row.Goals as goal

pub returns : goal.returns
returns c = loop_row
