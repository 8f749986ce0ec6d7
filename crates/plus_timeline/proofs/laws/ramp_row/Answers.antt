use Rattle.plus_timeline.proofs.Rows.{ramp_row}
use Rattle.plus_timeline.proofs.laws.ramp_row.Goals as goal

pub returns : goal.returns
returns c = ramp_row
