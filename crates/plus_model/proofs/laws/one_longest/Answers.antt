use Rattle.plus_model.proofs.Longest.{one_longest}
use Rattle.plus_model.proofs.laws.one_longest.Goals as goal

pub returns : goal.returns
returns c = one_longest
