use Rattle.rows.proofs.TestedLemmas.SettleRows.{settle_stops}
use Rattle.rows.proofs.tested.settling.settle_stops.Goals as goal

pub returns : goal.returns
returns c = settle_stops
