use Rattle.plus_model.proofs.Longest.{one_broken_prefix}
use Rattle.plus_model.proofs.laws.one_broken_prefix.Goals as goal

pub returns : goal.returns
returns c = one_broken_prefix
