use Rattle.plus_places.proofs.Constraints.{spells_none}
use Rattle.plus_places.proofs.laws.refused_spells_no_constraints.Goals as goal

pub returns : goal.returns
returns c = spells_none
