use Rattle.plus_places.proofs.Domains.{spells_none}
use Rattle.plus_places.proofs.laws.refused_spells_no_domain.Goals as goal

pub returns : goal.returns
returns c = spells_none
