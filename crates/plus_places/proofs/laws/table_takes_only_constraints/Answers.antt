use Rattle.plus_places.proofs.Constraints.{run_tree}
use Rattle.plus_places.proofs.laws.table_takes_only_constraints.Goals as goal

pub returns : goal.returns
returns c = run_tree
