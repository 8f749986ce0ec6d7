use Rattle.plus_grammar.proofs.CountRows.{count_rows}
use Rattle.plus_grammar.proofs.rows.count_rows.Goals as goal

pub returns : goal.returns
returns c = count_rows
