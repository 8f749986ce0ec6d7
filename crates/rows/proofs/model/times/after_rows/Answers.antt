use Rattle.rows.proofs.ModelLemmas.AfterRow.{after_rows}
use Rattle.rows.proofs.model.times.after_rows.Goals as goal

pub returns : goal.returns
returns c = after_rows
