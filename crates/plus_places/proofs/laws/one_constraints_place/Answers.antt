use Rattle.plus_places.proofs.Constraints.{one_place}
use Rattle.plus_places.proofs.laws.one_constraints_place.Goals as goal

pub returns : goal.returns
returns c = one_place
