use Rattle.rows.proofs.WatchedLemmas.TankRow.{tank_rows}
use Rattle.rows.proofs.watched.tank_rows.Goals as goal

pub returns : goal.returns
returns c = tank_rows
