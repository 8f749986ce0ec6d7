use Rattle.plus_model.proofs.Paths.{prefix_begins}
use Rattle.plus_model.proofs.laws.prefix_begins.Goals as goal

pub returns : goal.returns
returns c = prefix_begins
