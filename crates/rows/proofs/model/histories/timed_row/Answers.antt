use Rattle.rows.proofs.ModelLemmas.TankRow.{timed_trajectory}
use Rattle.rows.proofs.model.histories.timed_row.Goals as goal

pub returns : goal.returns
returns c = timed_trajectory
