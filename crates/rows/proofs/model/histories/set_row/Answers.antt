use Rattle.rows.proofs.ModelLemmas.TokenRow.{set_row}
use Rattle.rows.proofs.model.histories.set_row.Goals as goal

pub returns : goal.returns
returns c = set_row
