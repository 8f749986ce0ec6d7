use Rattle.rows.proofs.TestedLemmas.EntryRows.{line_rows}
use Rattle.rows.proofs.tested.entries.line_rows.Goals as goal

pub returns : goal.returns
returns c = line_rows
