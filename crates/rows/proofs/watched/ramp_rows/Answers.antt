use Rattle.rows.proofs.WatchedLemmas.RampRow.{ramp_rows}
use Rattle.rows.proofs.watched.ramp_rows.Goals as goal

pub returns : goal.returns
returns c = ramp_rows
