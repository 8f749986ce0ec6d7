use Rattle.plus_report.proofs.RowsHold.{tank_holds}
use Rattle.plus_report.proofs.laws.tank_row.Goals as goal

pub returns : goal.returns
returns c = tank_holds
