use Rattle.plus_numeric.proofs.Excluding.{passing_is_plan}
use Rattle.plus_numeric.proofs.laws.passing_is_plan.Goals as goal

pub returns : goal.returns
returns c = passing_is_plan
