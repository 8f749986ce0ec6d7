use Rattle.rows.proofs.TestedLemmas.EntryRows.{closing_rows}
use Rattle.rows.proofs.tested.entries.closing_rows.Goals as goal

pub returns : goal.returns
returns c = closing_rows
