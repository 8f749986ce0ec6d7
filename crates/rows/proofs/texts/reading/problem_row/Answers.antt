use Rattle.rows.proofs.TextsLemmas.ReadingRows.{problem_row_holds}
use Rattle.rows.proofs.texts.reading.problem_row.Goals as goal

pub returns : goal.returns
returns c = problem_row_holds
