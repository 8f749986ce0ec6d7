use Rattle.plus_places.proofs.Constraints.{spells_run}
use Rattle.plus_places.proofs.laws.table_takes_constraints.Goals as goal

pub returns : goal.returns
returns c = spells_run
