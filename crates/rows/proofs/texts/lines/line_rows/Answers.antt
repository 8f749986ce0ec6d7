use Rattle.rows.proofs.TextsLemmas.LineRows.{line_rows}
use Rattle.rows.proofs.texts.lines.line_rows.Goals as goal

pub returns : goal.returns
returns c = line_rows
