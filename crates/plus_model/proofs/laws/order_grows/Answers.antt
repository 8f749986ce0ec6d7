use Rattle.plus_model.proofs.Reading.{order_grows}
use Rattle.plus_model.proofs.laws.order_grows.Goals as goal

pub returns : goal.returns
returns c = order_grows
