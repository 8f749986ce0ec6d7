use Rattle.rows.proofs.TextsLemmas.LineRows.{cut_rows}
use Rattle.rows.proofs.texts.lines.cut_rows.Goals as goal

pub returns : goal.returns
returns c = cut_rows
