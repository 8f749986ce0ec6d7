use Rattle.rows.proofs.TestedLemmas.EntryRows.{stretch_rows}
use Rattle.rows.proofs.tested.entries.stretch_rows.Goals as goal

pub returns : goal.returns
returns c = stretch_rows
