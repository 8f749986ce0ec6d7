use Rattle.plus_plan.proofs.OnePlace.{one_place}
use Rattle.plus_plan.proofs.laws.one_place.Goals as goal

pub returns : goal.returns
returns c = one_place
