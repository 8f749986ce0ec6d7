use Rattle.rows.proofs.TimeLemmas.ListRows.{live_rows}
use Rattle.rows.proofs.time.lists.live_rows.Goals as goal

pub returns : goal.returns
returns c = live_rows
