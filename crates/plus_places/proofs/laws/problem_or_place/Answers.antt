use Rattle.plus_places.proofs.Problems.{tree_or_place}
use Rattle.plus_places.proofs.laws.problem_or_place.Goals as goal

pub returns : goal.returns
returns c = tree_or_place
