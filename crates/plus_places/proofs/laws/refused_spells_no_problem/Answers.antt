use Rattle.plus_places.proofs.Problems.{spells_none}
use Rattle.plus_places.proofs.laws.refused_spells_no_problem.Goals as goal

pub returns : goal.returns
returns c = spells_none
