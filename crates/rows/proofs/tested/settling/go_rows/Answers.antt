use Rattle.rows.proofs.TestedLemmas.SettleRows.{go_rows}
use Rattle.rows.proofs.tested.settling.go_rows.Goals as goal

pub returns : goal.returns
returns c = go_rows
