use Rattle.rows.proofs.TestedLemmas.EntryRows.{round_rows}
use Rattle.rows.proofs.tested.entries.round_rows.Goals as goal

pub returns : goal.returns
returns c = round_rows
