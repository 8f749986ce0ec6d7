use Rattle.plus_places.proofs.Domains.{spells_run}
use Rattle.plus_places.proofs.laws.table_takes_domains.Goals as goal

pub returns : goal.returns
returns c = spells_run
