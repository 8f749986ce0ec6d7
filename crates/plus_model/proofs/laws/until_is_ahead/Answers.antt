use Rattle.plus_model.proofs.InTime.{until_is_ahead}
use Rattle.plus_model.proofs.laws.until_is_ahead.Goals as goal

pub returns : goal.returns
returns c = until_is_ahead
