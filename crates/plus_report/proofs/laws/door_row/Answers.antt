use Rattle.plus_report.proofs.RowsHold.{door_holds}
use Rattle.plus_report.proofs.laws.door_row.Goals as goal

pub returns : goal.returns
returns c = door_holds
