use Rattle.plus_steps.proofs.RowLemmas.{mix_row}
use Rattle.plus_steps.proofs.rows.mix_row.Goals as goal

pub returns : goal.returns
returns c = mix_row
