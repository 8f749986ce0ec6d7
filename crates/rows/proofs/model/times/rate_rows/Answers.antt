use Rattle.rows.proofs.ModelLemmas.TimeRows.{rate_rows}
use Rattle.rows.proofs.model.times.rate_rows.Goals as goal

pub returns : goal.returns
returns c = rate_rows
