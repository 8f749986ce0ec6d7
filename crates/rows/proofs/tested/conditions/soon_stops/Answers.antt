use Rattle.rows.proofs.TestedLemmas.ConditionRows.{soon_stops}
use Rattle.rows.proofs.tested.conditions.soon_stops.Goals as goal

pub returns : goal.returns
returns c = soon_stops
