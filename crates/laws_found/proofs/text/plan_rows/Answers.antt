use Rattle.laws_found.proofs.TextLemmas.Rows.{written_row, empty_row, read_row}
use Rattle.laws_found.proofs.text.plan_rows.Goals as goal

pub returns : goal.returns
returns c = record { written = written_row; empty = empty_row; read = read_row }
