use Rattle.plus_report.proofs.RowsHold.{mix_holds}
use Rattle.plus_report.proofs.laws.mix_row.Goals as goal

pub returns : goal.returns
returns c = mix_holds
