use Rattle.plus_validator.proofs.Excluding as excluding
use Rattle.plus_validator.proofs.laws.pair_or_plan.Goals as goal

pub returns : goal.returns
returns c = excluding.pair_or_plan
