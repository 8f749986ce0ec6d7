use Rattle.plus_places.proofs.Domains.{run_tree}
use Rattle.plus_places.proofs.laws.table_takes_only_domains.Goals as goal

pub returns : goal.returns
returns c = run_tree
