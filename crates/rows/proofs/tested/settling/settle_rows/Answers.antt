use Rattle.rows.proofs.TestedLemmas.SettleRows.{settle_rows}
use Rattle.rows.proofs.tested.settling.settle_rows.Goals as goal

pub returns : goal.returns
returns c = settle_rows
