use Rattle.rows.proofs.TextsLemmas.ReadingRows.{domain_row_holds}
use Rattle.rows.proofs.texts.reading.domain_row.Goals as goal

pub returns : goal.returns
returns c = domain_row_holds
