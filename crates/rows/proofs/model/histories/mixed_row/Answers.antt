use Rattle.rows.proofs.ModelLemmas.MixedRow.{mixed_row}
use Rattle.rows.proofs.model.histories.mixed_row.Goals as goal

pub returns : goal.returns
returns c = mixed_row
