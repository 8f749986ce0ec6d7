use Rattle.rows.proofs.TimeLemmas.ListRows.{name_rows}
use Rattle.rows.proofs.time.lists.name_rows.Goals as goal

pub returns : goal.returns
returns c = name_rows
