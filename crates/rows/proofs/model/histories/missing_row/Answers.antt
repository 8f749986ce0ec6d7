use Rattle.rows.proofs.ModelLemmas.MixedRow.{missing_row}
use Rattle.rows.proofs.model.histories.missing_row.Goals as goal

pub returns : goal.returns
returns c = missing_row
