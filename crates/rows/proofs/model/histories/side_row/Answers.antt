use Rattle.rows.proofs.ModelLemmas.SideRow.{side_row}
use Rattle.rows.proofs.model.histories.side_row.Goals as goal

pub returns : goal.returns
returns c = side_row
