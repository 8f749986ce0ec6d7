use Rattle.plus_model.proofs.Longest.{worked_is_longest}
use Rattle.plus_model.proofs.laws.worked_is_longest.Goals as goal

pub returns : goal.returns
returns c = worked_is_longest
