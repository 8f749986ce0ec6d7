use Rattle.plus_model.proofs.Paths.{prefix_grows}
use Rattle.plus_model.proofs.laws.prefix_grows.Goals as goal

pub returns : goal.returns
returns c = prefix_grows
