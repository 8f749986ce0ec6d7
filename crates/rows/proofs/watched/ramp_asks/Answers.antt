use Rattle.rows.proofs.WatchedLemmas.RampRow.{ramp_asks}
use Rattle.rows.proofs.watched.ramp_asks.Goals as goal

pub returns : goal.returns
returns c = ramp_asks
