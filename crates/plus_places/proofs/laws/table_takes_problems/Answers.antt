use Rattle.plus_places.proofs.Problems.{spells_run}
use Rattle.plus_places.proofs.laws.table_takes_problems.Goals as goal

pub returns : goal.returns
returns c = spells_run
