use Rattle.rows.proofs.TestedLemmas.ConditionRows.{soon_rows}
use Rattle.rows.proofs.tested.conditions.soon_rows.Goals as goal

pub returns : goal.returns
returns c = soon_rows
