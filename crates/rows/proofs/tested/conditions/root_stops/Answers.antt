use Rattle.rows.proofs.TestedLemmas.ConditionRows.{root_stops}
use Rattle.rows.proofs.tested.conditions.root_stops.Goals as goal

pub returns : goal.returns
returns c = root_stops
