use Rattle.rows.proofs.TextsLemmas.ReadingRows.{constraint_rows_hold}
use Rattle.rows.proofs.texts.reading.constraint_rows.Goals as goal

pub returns : goal.returns
returns c = constraint_rows_hold
