use Rattle.rows.proofs.TestedLemmas.ConditionRows.{root_rows}
use Rattle.rows.proofs.tested.conditions.root_rows.Goals as goal

pub returns : goal.returns
returns c = root_rows
