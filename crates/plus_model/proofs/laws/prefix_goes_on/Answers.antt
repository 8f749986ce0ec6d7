use Rattle.plus_model.proofs.Later.{prefix_goes_on}
use Rattle.plus_model.proofs.laws.prefix_goes_on.Goals as goal

pub returns : goal.returns
returns c = prefix_goes_on
