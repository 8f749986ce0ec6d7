use Rattle.rows.proofs.ModelLemmas.TimeRows.{round_rows}
use Rattle.rows.proofs.model.times.round_rows.Goals as goal

pub returns : goal.returns
returns c = round_rows
