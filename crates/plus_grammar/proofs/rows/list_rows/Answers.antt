use Rattle.plus_grammar.proofs.ListRows.{list_rows}
use Rattle.plus_grammar.proofs.rows.list_rows.Goals as goal

pub returns : goal.returns
returns c = list_rows
