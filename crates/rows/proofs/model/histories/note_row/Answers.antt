use Rattle.rows.proofs.ModelLemmas.StickRow.{note_row}
use Rattle.rows.proofs.model.histories.note_row.Goals as goal

pub returns : goal.returns
returns c = note_row
