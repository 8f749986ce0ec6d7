use Rattle.rows.proofs.TimeLemmas.JustAfterRows.{joined_rows}
use Rattle.rows.proofs.time.just_after.joined_rows.Goals as goal

pub returns : goal.returns
returns c = joined_rows
