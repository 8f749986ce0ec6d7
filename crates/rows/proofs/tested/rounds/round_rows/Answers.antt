use Rattle.rows.proofs.TestedLemmas.RoundRows.{round_rows}
use Rattle.rows.proofs.tested.rounds.round_rows.Goals as goal

pub returns : goal.returns
returns c = round_rows
