use Rattle.plus_model.proofs.Longest.{unbegun_is_longest}
use Rattle.plus_model.proofs.laws.unbegun_is_longest.Goals as goal

pub returns : goal.returns
returns c = unbegun_is_longest
