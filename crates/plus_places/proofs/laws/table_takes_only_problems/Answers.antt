use Rattle.plus_places.proofs.Problems.{run_tree}
use Rattle.plus_places.proofs.laws.table_takes_only_problems.Goals as goal

pub returns : goal.returns
returns c = run_tree
