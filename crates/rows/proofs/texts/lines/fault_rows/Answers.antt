use Rattle.rows.proofs.TextsLemmas.LineRows.{fault_rows}
use Rattle.rows.proofs.texts.lines.fault_rows.Goals as goal

pub returns : goal.returns
returns c = fault_rows
