use Rattle.rows.proofs.ModelLemmas.TankRow.{tank_trajectory}
use Rattle.rows.proofs.model.histories.tank_row.Goals as goal

pub returns : goal.returns
returns c = tank_trajectory
