use Rattle.rows.proofs.TextsLemmas.ReadingRows.{fault_rows_holds}
use Rattle.rows.proofs.texts.reading.fault_rows.Goals as goal

pub returns : goal.returns
returns c = fault_rows_holds
