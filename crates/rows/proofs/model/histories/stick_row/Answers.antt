use Rattle.rows.proofs.ModelLemmas.StickRow.{stick_row}
use Rattle.rows.proofs.model.histories.stick_row.Goals as goal

pub returns : goal.returns
returns c = stick_row
