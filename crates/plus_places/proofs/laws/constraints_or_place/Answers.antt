use Rattle.plus_places.proofs.Constraints.{tree_or_place}
use Rattle.plus_places.proofs.laws.constraints_or_place.Goals as goal

pub returns : goal.returns
returns c = tree_or_place
