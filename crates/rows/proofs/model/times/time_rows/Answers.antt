use Rattle.rows.proofs.ModelLemmas.TimeRows.{time_rows}
use Rattle.rows.proofs.model.times.time_rows.Goals as goal

pub returns : goal.returns
returns c = time_rows
