use Rattle.rows.proofs.AcceptedLemmas.FiresRows.{fires_rows}
use Rattle.rows.proofs.accepted.fires.fires_rows.Goals as goal

pub returns : goal.returns
returns c = fires_rows
