use Rattle.plus_report.proofs.RowsHold.{timed_holds}
use Rattle.plus_report.proofs.laws.timed_row.Goals as goal

pub returns : goal.returns
returns c = timed_holds
