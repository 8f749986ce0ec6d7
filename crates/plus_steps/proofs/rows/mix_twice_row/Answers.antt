use Rattle.plus_steps.proofs.RowLemmas.{mix_twice_row}
use Rattle.plus_steps.proofs.rows.mix_twice_row.Goals as goal

pub returns : goal.returns
returns c = mix_twice_row
