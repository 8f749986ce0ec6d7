use Rattle.rows.proofs.ModelLemmas.TokenRow.{token_row}
use Rattle.rows.proofs.model.histories.token_row.Goals as goal

pub returns : goal.returns
returns c = token_row
