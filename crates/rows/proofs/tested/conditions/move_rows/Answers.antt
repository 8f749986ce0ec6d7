use Rattle.rows.proofs.TestedLemmas.ConditionRows.{move_rows}
use Rattle.rows.proofs.tested.conditions.move_rows.Goals as goal

pub returns : goal.returns
returns c = move_rows
